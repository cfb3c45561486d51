-- What a search found, and what a flag tells. Assumes nothing.
use Rattle.std.specs.Prelude.{ℕ, ◌<◌, Bool, true, false, Option, Some, None}
use Rattle.table.specs.Lowest.{LowestAt}

-- what was found: the lowest of n places at which Good fails, or nothing where it holds at each
abbrev pub Lowest : (ℕ → Type 0) → ℕ → Option ℕ → Type 0
Lowest Good n (Some k) = LowestAt Good n k
Lowest Good n None = (k : ℕ) → k < n → Good k

-- a flag that is true exactly if P holds
abbrev pub Tells : Type 0 → Bool → Type 0
Tells P true = P
Tells P false = ¬ P
