-- One or more steps, tested: a way needs no position twice, so that as many steps as there are positions, and one more, will do.
-- Assumes nothing.
use Prim.Native.Nat.{ℕ, zero, suc, ◌≤◌, ◌<◌}
use mathlib.Core.Path.{◌≡◌, refl, ap}
use mathlib.Core.Logic.{◌≢◌, ◌⊎◌, inl, inr}
use mathlib.Core.Bool.{Bool, false, ◌&&◌, ◌||◌}
use mathlib.Core.List.{List, [], ◌∷◌}
use native.Mathlib.Nat.{eq-or-lt_of_le}
use native.Mathlib.Omega.{arith}
use lib.Dec.{T}
use lib.ListN.{length}
use Rattle.table.proofs.Test.{Test, settle, and_out, and_into, or_out, or_left, or_right, is_equal, some_below, some_out, some_into}
use Rattle.table.specs.Plus.{Plus, last, next}

-- k stands in a list
abbrev pub In : ℕ → List ℕ → Type 0
In k [] = ⊥
In k (a ∷ s) = (k ≡ a) ⊎ In k s

-- the numbers below n
abbrev pub below : ℕ → List ℕ
below zero = []
below (suc n) = n ∷ below n

pub below_length : (n : ℕ) → length (below n) ≡ n
below_length zero = refl
below_length (suc n) = ap suc (below_length n)

pub below_in : (n k : ℕ) → k < n → In k (below n)
below_in zero k l = absurd (omega arith)
below_in (suc n) k l = elim (eq-or-lt_of_le l) [ inl e ↦ inl (omega arith) | inr m ↦ inr (below_in n k (omega arith)) ]

-- a list without a number of it is shorter
pub without : (z : ℕ) (s : List ℕ) → In z s → (t : List ℕ) × (suc (length t) ≡ length s) × ((k : ℕ) → In k s → k ≢ z → In k t)
without z [] m = absurd m
without z (a ∷ s) (inl e) = (s, refl, λ k m d. elim m [ inl f ↦ absurd (omega arith) | inr n ↦ n ])
without z (a ∷ s) (inr m) =
    let r = without z s m in
    (a ∷ r.0, ap suc r.1, λ k n d. elim n [ inl f ↦ inl f | inr o ↦ inr (r.2 k o d) ])

-- steps of R lead from i to j over numbers of a list
pub data Over (R : ℕ → ℕ → Type 0) (s : List ℕ) : ℕ → ℕ → Type 0 where
  straight : {i j : ℕ} → R i j → Over R s i j
  over : {i j : ℕ} (k : ℕ) → In k s → R i k → Over R s k j → Over R s i j

-- the same with one number less, or from that number
pub cut : {R : ℕ → ℕ → Type 0} {s t : List ℕ} {i j : ℕ} (z : ℕ) → ((k : ℕ) → In k s → k ≢ z → In k t) → Over R s i j → Over R t i j ⊎ Over R t z j
cut z keep (straight r) = inl (straight r)
cut {R} {s} {t} z keep (over {i = i} {j = j} k m r o) = go (cut z keep o) (settle (is_equal k z))
  where
    go : Over R t k j ⊎ Over R t z j → (k ≡ z) ⊎ (k ≢ z) → Over R t i j ⊎ Over R t z j
    go (inr p) e = inr p
    go (inl p) (inl e) = inr (rw e at p)
    go (inl p) (inr d) = inl (over k (keep k m d) r p)

pub plus_over : {R : ℕ → ℕ → Type 0} {n i j : ℕ} → ((i j : ℕ) → R i j → j < n) → Plus R i j → Over R (below n) i j
plus_over low (last r) = straight r
plus_over {n = n} low (next {i = i} k r p) = over k (below_in n k (low i k r)) r (plus_over low p)

-- at most m steps lead from i to j, over positions below n
abbrev walk : (ℕ → ℕ → Bool) → ℕ → ℕ → ℕ → ℕ → Bool
walk s n zero i j = false
walk s n (suc m) i j = let on = some_below n (λ k. let rest = walk s n m k j in s i k && rest) in s i j || on

module _ {R : ℕ → ℕ → Type 0} (n : ℕ) (low : (i j : ℕ) → R i j → j < n) (step : (i j : ℕ) → Test (R i j)) where
  abbrev bit : ℕ → ℕ → Bool
  bit i j = (step i j).run

  pub walk_plus : (m i j : ℕ) → T (walk bit n m i j) → Plus R i j
  walk_plus zero i j h = absurd h
  walk_plus (suc m) i j h = elim (or_out (bit i j) (some_below n (λ k. bit i k && walk bit n m k j)) h) [
    | inl x ↦ last ((step i j).out x)
    | inr x ↦
        let r = some_out n (λ k. bit i k && walk bit n m k j) x in
        let b = and_out (bit i r.0) (walk bit n m r.0 j) r.2 in
        next r.0 ((step i r.0).out b.0) (walk_plus m r.0 j b.1)
  ]

  one_walk : (m i j : ℕ) → R i j → T (walk bit n (suc m) i j)
  one_walk m i j r = or_left (bit i j) (some_below n (λ k. bit i k && walk bit n m k j)) ((step i j).into r)

  more_walk : (m i j k : ℕ) → R i k → T (walk bit n m k j) → T (walk bit n (suc m) i j)
  more_walk m i j k r w = or_right (bit i j) (some_below n (λ k. bit i k && walk bit n m k j))
      (some_into n (λ k. bit i k && walk bit n m k j) k (low i k r) (and_into (bit i k) (walk bit n m k j) ((step i k).into r) w))

  over_walk : (m : ℕ) (s : List ℕ) (i j : ℕ) → length s ≤ m → Over R s i j → T (walk bit n (suc m) i j)
  over_walk zero s i j l (straight r) = one_walk zero i j r
  over_walk zero s i j l (over k h r o) = absurd (omega (arith, (without k s h).1))
  over_walk (suc m) s i j l (straight r) = one_walk (suc m) i j r
  over_walk (suc m) s i j l (over k h r o) =
      let w = without k s h in
      let p : Over R w.0 k j = elim (cut {t = w.0} k w.2 o) [ inl q ↦ q | inr q ↦ q ] in
      more_walk (suc m) i j k r (over_walk m w.0 k j (omega (arith, w.1)) p)

  pub plus_walk : (i j : ℕ) → Plus R i j → T (walk bit n (suc n) i j)
  plus_walk i j p = over_walk n (below n) i j (omega (arith, below_length n)) (plus_over low p)

  -- steps that end below n are tested, and so are one or more of them
  abbrev pub closure : (i j : ℕ) → Test (Plus R i j)
  closure i j = record { run = walk bit n (suc n) i j; out = walk_plus (suc n) i j; into = plus_walk i j }
