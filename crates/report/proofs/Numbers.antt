-- The numbers of the verdict's line, written one by one. Assumes nothing.
use Rattle.std.proofs.Common.{ℕ, ◌+◌, ◌≤◌, ◌≡◌, List, [], ◌++◌, arith, length, take, length-take}
use Rattle.verdict.specs.declared.Breach.{Breach}
use Rattle.lines.specs.Text.{line}
use Rattle.lines.proofs.Spaced.{line_length}
use Rattle.report.specs.Report.{verdict_word, numbers_of}

-- behind five numbers the first k positions are written
pub record Written (five positions : List ℕ) (k : ℕ) (numbers : List ℕ) : Type 0 where
  pub within : k ≤ length positions
  pub size : length numbers ≡ 22
  pub are : take (5 + k) numbers ≡ five ++ take k positions

-- a chain of at most 17 positions makes at most 22 numbers, and so a short line
pub verdict_length : (b : Breach) → b.length ≤ 17 → length (line verdict_word (numbers_of b) []) ≤ 471
verdict_length b h = omega (arith, line_length verdict_word (numbers_of b) [], length-take b.length b.chain)
