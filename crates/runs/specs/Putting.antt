-- What it is to put text into a buffer. Assumes nothing.
use Rattle.std.specs.Prelude.{ℕ, ◌+◌, ◌≤◌, ◌≡◌, List, length}
use Rattle.std.proofs.Math.Seq.{paste}

-- the text stands at its place, all else is as it was, and r is the place behind it
pub record Puts (text before : List ℕ) (at : ℕ) (after : List ℕ) (r : ℕ) : Type 0 where
  pub is : after ≡ paste before at text (length text)
  pub end : r ≡ at + length text

-- the same where there is room for the text; where there is none, only the place behind it is told
pub record Fits (text before : List ℕ) (at : ℕ) (after : List ℕ) (r : ℕ) : Type 0 where
  pub kept : length after ≡ length before
  pub end : r ≡ at + length text
  pub is : at + length text ≤ length before → after ≡ paste before at text (length text)
