-- The marks of one role, counted privilege by privilege. Assumes nothing.
use Rattle.std.proofs.Common.{ℕ, ◌+◌, ◌*◌, ◌≤◌, ◌<◌, ◌≡◌, List, length, get_or}
use Rattle.sheet.specs.Sheets.{mark_at}
use Rattle.sheet.specs.Steps.Counting.{Adds}

-- the marks of the first p privileges are counted, and the numbers of the others are as they were
pub record CountedTo (m counts : List ℕ) (p : ℕ) (after : List ℕ) : Type 0 where
  pub size : length after ≡ length counts
  pub each : (q k : ℕ) → q < p → k < 3 → Adds (get_or m q 0 ≡ mark_at k) (get_or counts (3 * q + k) 0) (get_or after (3 * q + k) 0)
  pub rest : (a : ℕ) → 3 * p ≤ a → get_or after a 0 ≡ get_or counts a 0
