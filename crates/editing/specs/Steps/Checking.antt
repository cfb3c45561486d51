-- What checking an edit answers. Assumes nothing.
use Rattle.std.specs.Prelude.{ℕ, ◌≡◌, List}
use Rattle.table.specs.Steps.Order.{BottomUp}
use Rattle.editing.specs.Answer.{IsEdit, NoEdit}

-- number 0, or why not
pub data EditChecked (ws marks : List ℕ) (n p mark number place : ℕ) : Type 0 where
  refused : NoEdit ws marks n p mark number place → EditChecked ws marks n p mark number place
  fits : IsEdit ws marks n p mark → number ≡ 0 → EditChecked ws marks n p mark number place

-- and where it can be made, the order of the types
pub record OrderedEdit (ws marks : List ℕ) (n p mark : ℕ) (order : List ℕ) (number place : ℕ) : Type 0 where
  pub answer : EditChecked ws marks n p mark number place
  pub up : number ≡ 0 → BottomUp ws order
