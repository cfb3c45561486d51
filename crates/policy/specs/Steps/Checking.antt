-- What checking a run of marks answers, and a table with its marks. Assumes nothing.
use Rattle.std.specs.Prelude.{ℕ, ◌≡◌, List}
use Rattle.table.specs.Privilege.{privileges}
use Rattle.table.specs.Steps.Order.{BottomUp}
use Rattle.policy.specs.Marks.{Fit, Unfit, Policy, NoPolicy}

-- what checking marks answers
pub data MarksAnswer (first v : ℕ) (marks : List ℕ) (number place : ℕ) : Type 0 where
  unfit : Unfit first v marks number place → MarksAnswer first v marks number place
  fit : Fit v marks → number ≡ 0 → place ≡ 0 → MarksAnswer first v marks number place

-- what checking both answers: number 0 and V, or why not
pub data PolicyAnswer (ws marks : List ℕ) (number place : ℕ) : Type 0 where
  refused : NoPolicy ws marks number place → PolicyAnswer ws marks number place
  fits : Policy ws marks → number ≡ 0 → place ≡ privileges ws → PolicyAnswer ws marks number place

-- and where there is a policy, the order of the types
pub record OrderedPolicy (ws marks order : List ℕ) (number place : ℕ) : Type 0 where
  pub answer : PolicyAnswer ws marks number place
  pub up : number ≡ 0 → BottomUp ws order
