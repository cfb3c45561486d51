-- Checks 19 and 8 together, and accepting a table with the order of its types. Assumes nothing.
use Rattle.std.specs.Prelude.{ℕ, ◌<◌, ◌≡◌, Bool, true, List, length}
use Rattle.table.specs.Steps.Found.{Tells}
use Rattle.table.specs.Words.{types}
use Rattle.table.specs.Below.{OffCycle, FromRoot}
use Rattle.table.specs.Steps.Order.{BottomUp}
use Rattle.table.specs.Check.{Accepted, TableAnswer}

-- no type is on a cycle, and each is reached from the root
pub record Ordered (ws : List ℕ) : Type 0 where
  pub off_cycle : (t : ℕ) → t < types ws → OffCycle ws t
  pub reached : (t : ℕ) → t < types ws → FromRoot ws t

-- whether it is so, with an order that shows it
pub record Ordering (ws order : List ℕ) (told : Bool) : Type 0 where
  pub size : length order ≡ 256
  pub tells : Tells (Ordered ws) told
  pub up : told ≡ true → BottomUp ws order

-- a yes is right, and then there is an order
pub record Accepting (ws order : List ℕ) (told : Bool) : Type 0 where
  pub size : length order ≡ 256
  pub accepted : told ≡ true → Accepted ws
  pub up : told ≡ true → BottomUp ws order

-- the answer of a check, and where the words are a table the order
pub record OrderedAnswer (ws order : List ℕ) (number place : ℕ) : Type 0 where
  pub answer : TableAnswer ws number place
  pub up : number ≡ 0 → BottomUp ws order
