-- How many numbers have a property, and the lowest of them (document 02, order 8: "the lowest privilege with the count of forbidden privileges, each counted
-- once ..., or 0 and 0"). Assumes nothing.
use Rattle.std.specs.Prelude.{ℕ, suc, ◌≤◌, ◌<◌, ◌≡◌}

-- of the numbers below n, c have P
pub data HowMany (P : ℕ → Type 0) : ℕ → ℕ → Type 0 where
  none : HowMany P 0 0
  one_more : {n c : ℕ} → HowMany P n c → P n → HowMany P (suc n) (suc c)
  no_more : {n c : ℕ} → HowMany P n c → ¬ P n → HowMany P (suc n) c

-- of the numbers below n, the lowest that has P and how many have it; 0 and 0 where none has
pub data Tallied (P : ℕ → Type 0) (n lowest count : ℕ) : Type 0 where
  some : lowest < n → P lowest → ((q : ℕ) → q < n → P q → lowest ≤ q) → HowMany P n count → Tallied P n lowest count
  nothing : ((q : ℕ) → q < n → ¬ P q) → lowest ≡ 0 → count ≡ 0 → Tallied P n lowest count
