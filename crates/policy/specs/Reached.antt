-- Reached (document 01, "The three conditions"): at a choice, j is reached from i if one or more allowed replacements lead from i to j. What
-- is allowed is any set of privileges, so that a policy's marks, a completion and a pair of maps can all be asked. Assumes nothing.
use Rattle.std.specs.Prelude.{ℕ, List}
use Rattle.table.specs.Plus.{Plus}
use Rattle.table.specs.Privilege.{replace_of, Replaceable}

-- at choice x the child at i may be replaced by the kind at j
pub record Step (ws : List ℕ) (S : ℕ → Type 0) (x i j : ℕ) : Type 0 where
  pub can : Replaceable ws x i j
  pub allowed : S (replace_of ws x i j)

abbrev pub Reached : List ℕ → (ℕ → Type 0) → ℕ → ℕ → ℕ → Type 0
Reached ws S x i j = Plus (Step ws S x) i j
