-- "A type X is below Y if X is Y or can be reached from Y by going from types to their children" (document 01, "The three conditions"); "a type on
-- a cycle" and "not reached from the root" (document 02, order 2). Assumes nothing.
use Rattle.std.specs.Prelude.{ℕ, List}
use Rattle.table.specs.Words.{root}
use Rattle.table.specs.Rule.{Child}

-- x is below y
pub data Below (ws : List ℕ) : ℕ → ℕ → Type 0 where
  here : {x : ℕ} → Below ws x x
  down : {x y : ℕ} (z : ℕ) → Child ws y z → Below ws x z → Below ws x y

-- t is on a cycle: it is below one of its own children
pub record OnCycle (ws : List ℕ) (t : ℕ) : Type 0 where
  pub child : ℕ
  pub is_child : Child ws t child
  pub below : Below ws t child

-- what check 19 asks of type t
abbrev pub OffCycle : List ℕ → ℕ → Type 0
OffCycle ws t = ¬ OnCycle ws t

-- what check 8 asks of type t: it is below the root
abbrev pub FromRoot : List ℕ → ℕ → Type 0
FromRoot ws t = Below ws t (root ws)
