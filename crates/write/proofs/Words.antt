-- The loop that counts what the words make. Assumes nothing.
use Rattle.std.proofs.Common.{ℕ, ◌+◌, ◌*◌, ◌≤◌, ◌≡◌, List, length, drop}
use Rattle.write.specs.Steps.Reading.{types_in, kids_in}

-- the counting loop has passed c words
pub record Counting (code : List ℕ) (c types kids : ℕ) : Type 0 where
  pub within : c ≤ length code
  pub types_few : types ≤ 4 * c
  pub kids_few : kids ≤ 131072 * c
  pub types_are : types + types_in (drop c code) ≡ types_in code
  pub kids_are : kids + kids_in (drop c code) ≡ kids_in code
