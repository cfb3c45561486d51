-- What the marks say: on a cycle, and reached from the root. Assumes nothing.
use Prim.Native.Nat.{ℕ, ◌<◌}
use mathlib.Core.Path.{◌≡◌, ◌∙◌}
use mathlib.Core.List.{List}
use native.Mathlib.Omega.{arith}
use lib.ListN.{length, get_or, take, drop, length-drop}
use lib.Seq.{get_or-take, get_or-drop, length-take-le}
use Rattle.table.specs.Words.{types, root}
use Rattle.table.specs.Check.{Inside}
use Rattle.table.specs.Steps.Childed.{Childed}

-- the word of the root alone
module _ {ws : List ℕ} (g : Childed ws) where
  root_size : length (take 1 (drop 3 ws)) ≡ 1
  root_size = length-take-le 1 (drop 3 ws) (omega (arith, length-drop 3 ws, g.tiled.laid.lent, g.tiled.laid.size))

  root_read : get_or (take 1 (drop 3 ws)) 0 0 ≡ root ws
  root_read = get_or-take 1 (drop 3 ws) 0 0 (omega arith) ∙ get_or-drop 3 ws 0 0

  one : (i : ℕ) → i < length (take 1 (drop 3 ws)) → get_or (take 1 (drop 3 ws)) i 0 ≡ root ws
  one i l = let z : i ≡ 0 = omega (arith, root_size) in rw z root_read

  pub root_inside : {from : List ℕ} → from ≡ take 1 (drop 3 ws) → Inside (types ws) from
  root_inside e = rw e (λ i l. rw (one i l) g.tiled.laid.root_inside)
