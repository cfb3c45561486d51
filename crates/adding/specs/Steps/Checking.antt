-- What is found out before two sheets are added. Assumes nothing.
use Rattle.std.specs.Prelude.{ℕ, ◌+◌, ◌*◌, ◌<◌, ◌≡◌, List, get_or}
use Rattle.table.specs.Privilege.{privileges}
use Rattle.table.specs.Check.{Accepted}
use Rattle.sheet.specs.declared.Sheet.{Sheet}
use Rattle.adding.specs.Sums.{Held}
use Rattle.adding.specs.Answers.{Whole, DoneAt, HeldAt, NoSum}

-- 32 bits hold the sums of privilege p's three numbers
abbrev pub CountsHeld : List ℕ → List ℕ → ℕ → Type 0
CountsHeld counts more p = (k : ℕ) → k < 3 → Held (get_or counts (3 * p + k) 0 + get_or more (3 * p + k) 0)

-- two sheets that can be added
pub record Summable (ws : List ℕ) (s : Sheet) (counts : List ℕ) (t : Sheet) (more : List ℕ) : Type 0 where
  pub accepted : Accepted ws
  pub whole : Whole (privileges ws) counts more
  pub done : (k : ℕ) → k < 2 → DoneAt s t k
  pub held : (p : ℕ) → p < privileges ws + 1 → HeldAt ws s counts t more p

-- number 0 and V, or why they cannot be
pub data SumChecked (ws : List ℕ) (s : Sheet) (counts : List ℕ) (t : Sheet) (more : List ℕ) (number place : ℕ) : Type 0 where
  refused : NoSum ws s counts t more number place → SumChecked ws s counts t more number place
  fits : Summable ws s counts t more → number ≡ 0 → place ≡ privileges ws → SumChecked ws s counts t more number place
