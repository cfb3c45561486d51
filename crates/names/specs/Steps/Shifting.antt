-- Words of a run that move on, to make room for others before them. Assumes nothing.
use Rattle.std.specs.Prelude.{ℕ, ◌+◌, ◌≤◌, ◌<◌, ◌≡◌, List, length, get_or}

-- the words from `low` up to `high` have moved on by so many
pub record Shifted (by : ℕ) (before after : List ℕ) (low high : ℕ) : Type 0 where
  pub left : (j : ℕ) → j < low + by → get_or after j 0 ≡ get_or before j 0
  pub moved : (j : ℕ) → low ≤ j → j < high → get_or after (j + by) 0 ≡ get_or before j 0
  pub right : (j : ℕ) → high + by ≤ j → get_or after j 0 ≡ get_or before j 0
  pub kept : length after ≡ length before
