-- "One or more allowed replacements lead from i to j" (document 01, "The three conditions"): one or more steps, whatever a step is. Assumes nothing.
use Rattle.std.specs.Prelude.{ℕ}

-- one or more steps of R lead from i to j
pub data Plus (R : ℕ → ℕ → Type 0) : ℕ → ℕ → Type 0 where
  last : {i j : ℕ} → R i j → Plus R i j
  next : {i j : ℕ} (k : ℕ) → R i k → Plus R k j → Plus R i j
