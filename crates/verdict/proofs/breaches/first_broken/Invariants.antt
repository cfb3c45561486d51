-- The outer loop has passed the rows before i, the inner one the columns before j. Assumes nothing.
use Rattle.verdict.specs.Steps.Visits.{Broken}
use Rattle.std.proofs.Common.{None, ◌≡◌, ℕ, ◌≤◌, ◌<◌}
use Rattle.verdict.proofs.breaches.first_broken.Given as goal

abbrev pub invariant-loop-j : goal.invariant-loop-j
invariant-loop-j l = (l.i < l.count) × (l.count ≡ l.n.count) × (l.j ≤ l.count) × (l.found ≡ None) × ((a : ℕ) → a < l.i → (b : ℕ) → b < l.count → ¬ Broken l.marks l.n l.square a b) × ((b : ℕ) → b < l.j → ¬ Broken l.marks l.n l.square l.i b)

abbrev pub invariant-search : goal.invariant-search
invariant-search l = (l.i ≤ l.count) × (l.count ≡ l.n.count) × (l.found ≡ None) × ((a : ℕ) → a < l.i → (b : ℕ) → b < l.count → ¬ Broken l.marks l.n l.square a b)
