-- The loop has not passed the place of x. Assumes nothing.
use mathlib.Core.Path.{◌≡◌}
use Prim.Native.Nat.{ℕ, ◌≤◌, ◌<◌}
use lib.ListN.{get_or}
use Rattle.table.specs.Words.{types}
use Rattle.editing.proofs.above.place_of.Given as goal

abbrev pub invariant-loop-k : goal.invariant-loop-k
invariant-loop-k l = (l.k < types l.words) × ((j : ℕ) × (j ≤ l.k) × (get_or l.order j 0 ≡ l.x))

abbrev pub decreases-loop-k : goal.decreases-loop-k
decreases-loop-k l = l.k
