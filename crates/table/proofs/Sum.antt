-- Sums over the numbers below one, and the part of a sum that a number falls into. Assumes nothing.
use Prim.Native.Nat.{ℕ, zero, suc, ◌+◌, ◌≤◌, ◌<◌}
use mathlib.Core.Path.{◌≡◌}
use mathlib.Core.Logic.{◌⊎◌, inl, inr}
use native.Mathlib.Nat.{eq-or-lt_of_le}
use native.Mathlib.Numerals.{add-one}
use native.Mathlib.Omega.{arith}
use Rattle.table.specs.Sum.{sum_below}
use Rattle.table.proofs.Lists.{le_or_lt}

module _ (f : ℕ → ℕ) where
  pub sum_more : (n : ℕ) → sum_below f (n + 1) ≡ sum_below f n + f n
  unfolding sum_below
  sum_more n = rw add-one

  pub sum_mono : (m n : ℕ) → m ≤ n → sum_below f m ≤ sum_below f n
  unfolding sum_below
  sum_mono m zero h = let z : m ≡ 0 = omega arith in rw z (omega arith)
  sum_mono m (suc n) h = elim (eq-or-lt_of_le h) [
    | inl e ↦ rw e (omega arith)
    | inr l ↦ let z = sum_mono m n (omega arith) in omega arith
  ]

  -- the sum up to m with m's own part is within the sum up to n
  pub sum_part : (m n : ℕ) → m < n → sum_below f m + f m ≤ sum_below f n
  sum_part m n h = let z = sum_mono (m + 1) n (omega arith) in omega (arith, sum_more m)

  -- p falls into the part of x
  pub record Falls (p x : ℕ) : Type 0 where
    pub from : sum_below f x ≤ p
    pub until : p < sum_below f x + f x

  pub falls_one : {p x y : ℕ} → Falls p x → Falls p y → x ≡ y
  falls_one {p} {x} {y} a b = go (le_or_lt x y) (le_or_lt y x)
    where
      go : (x ≤ y) ⊎ (y < x) → (y ≤ x) ⊎ (x < y) → x ≡ y
      go (inl g) (inl h) = omega arith
      go (inl g) (inr h) = absurd (omega (arith, sum_part x y h))
      go (inr g) h = absurd (omega (arith, sum_part y x g))

  pub falls_some : (n p : ℕ) → p < sum_below f n → (x : ℕ) × (x < n) × Falls p x
  unfolding sum_below
  falls_some zero p h = absurd (omega arith)
  falls_some (suc n) p h = go (le_or_lt (sum_below f n) p) (λ l. falls_some n p l)
    where
      go : (sum_below f n ≤ p) ⊎ (p < sum_below f n) → (p < sum_below f n → (x : ℕ) × (x < n) × Falls p x) → (x : ℕ) × (x < suc n) × Falls p x
      go (inl l) again = (n, omega arith, record { from = l; until = h })
      go (inr l) again = let r = again l in (r.0, omega arith, r.2)
