-- A sum over the numbers below one: so "stretches follow one another in type order with no gap", and privileges "are numbered from 0, types in
-- ascending order" (document 01, "The schema table" and "Privileges and marks"). Assumes nothing.
use Rattle.std.specs.Prelude.{ℕ, zero, suc, ◌+◌}

-- f 0 + .. + f (n - 1)
unfoldable pub sum_below : (ℕ → ℕ) → ℕ → ℕ
sum_below f zero = 0
sum_below f (suc n) = sum_below f n + f n
