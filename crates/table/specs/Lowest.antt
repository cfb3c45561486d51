-- "The place is the lowest at which that check fails" (document 01, "Numbers of the answers and their order"): one definition for every numbered
-- check. Assumes nothing.
use Rattle.std.specs.Prelude.{ℕ, ◌<◌}

-- k is the lowest of n places at which Good fails
pub record LowestAt (Good : ℕ → Type 0) (n k : ℕ) : Type 0 where
  pub within : k < n
  pub fails : ¬ Good k
  pub before : (j : ℕ) → j < k → Good j
