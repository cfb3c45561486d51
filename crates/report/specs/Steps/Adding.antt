-- What each part of a report puts into the text. Assumes nothing.
use Rattle.std.specs.Prelude.{ℕ, ◌≤◌, List, length}
use Rattle.runs.specs.Putting.{Puts}

-- a text that is P was put at its place, in n bytes at most
pub record Adds (P : List ℕ → Type 0) (n : ℕ) (before : List ℕ) (at : ℕ) (after : List ℕ) (r : ℕ) : Type 0 where
  pub text : List ℕ
  pub is : P text
  pub puts : Puts text before at after r
  pub few : length text ≤ n
