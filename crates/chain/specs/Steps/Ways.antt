-- A given number of steps to an end, and from where so many lead there, as words of positions. Assumes nothing.
use Rattle.std.specs.Prelude.{ℕ, suc, ◌≤◌, ◌<◌, List, [], ◌∷◌, get_or}
use Rattle.policy.specs.Steps.Squares.{Positions}

-- m steps of R lead from a position to j over these positions, both ends among them
pub data Way (R : ℕ → ℕ → Type 0) (j : ℕ) : ℕ → ℕ → List ℕ → Type 0 where
  there : Way R j 0 j (j ∷ [])
  on : {m p : ℕ} (q : ℕ) {ps : List ℕ} → R p q → Way R j m q ps → Way R j (suc m) p (p ∷ ps)

pub record Away (R : ℕ → ℕ → Type 0) (j m p : ℕ) : Type 0 where
  pub over : List ℕ
  pub way : Way R j m p over

-- m is the fewest steps from i to j, and the words tell from where fewer lead to j
pub record Distances (R : ℕ → ℕ → Type 0) (n i j : ℕ) (sets : List ℕ) (m : ℕ) : Type 0 where
  pub some : 1 ≤ m
  pub most : m ≤ n
  pub leads : Away R j m i
  pub fewer : (t : ℕ) → 1 ≤ t → t < m → ¬ Away R j t i
  pub words : (t : ℕ) → t < m → Positions n (Away R j t) (get_or sets t 0)
