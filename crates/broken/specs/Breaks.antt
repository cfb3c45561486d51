-- "How many break each condition somewhere" (document 02, order 12): each condition is asked by itself, not only that of the first breach. Assumes
-- nothing.
use Rattle.std.specs.Prelude.{ℕ, ◌≡◌, List}
use Rattle.verdict.specs.Breaches.{IsBreach}
use Rattle.verdict.specs.declared.Spot.{Spot}
use Rattle.verdict.specs.declared.Condition.{Condition}

-- the marks break this condition somewhere: some privilege breaks it at some spot
pub record Breaks (ws : List ℕ) (condition : Condition) (marks : List ℕ) : Type 0 where
  pub spot : Spot
  pub privilege : ℕ
  pub of : spot.condition ≡ condition
  pub breach : IsBreach ws marks spot privilege
