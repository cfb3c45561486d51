-- One or more steps: they join, and those over positions below a number, told position by position, are all in the end. Assumes nothing.
use Prim.Native.Nat.{ℕ, zero, suc, ◌<◌}
use mathlib.Core.Path.{◌≡◌}
use mathlib.Core.Logic.{◌⊎◌, inl, inr}
use mathlib.Core.Bool.{Bool, true, false, ◌||◌, ◌&&◌}
use native.Mathlib.Nat.{eq-or-lt_of_le, suc_inj}
use native.Mathlib.Omega.{arith}
use Rattle.table.specs.Steps.Found.{Tells}
use Rattle.table.proofs.Lowest.{tells_as}
use Rattle.table.specs.Plus.{Plus, last, next}

pub plus_trans : {R : ℕ → ℕ → Type 0} {i k j : ℕ} → Plus R i k → Plus R k j → Plus R i j
plus_trans {k = k} (last r) q = next k r q
plus_trans (next l r p) q = next l r (plus_trans p q)

pub plus_map : {R S : ℕ → ℕ → Type 0} {i j : ℕ} → ((a b : ℕ) → R a b → S a b) → Plus R i j → Plus S i j
plus_map {i = i} {j = j} f (last r) = last (f i j r)
plus_map {i = i} f (next k r p) = next k (f i k r) (plus_map f p)

-- they begin and end where steps do
pub plus_starts : {R : ℕ → ℕ → Type 0} {P : ℕ → Type 0} {i j : ℕ} → ((a b : ℕ) → R a b → P a) → Plus R i j → P i
plus_starts {i = i} {j = j} f (last r) = f i j r
plus_starts {i = i} f (next k r p) = f i k r

pub plus_ends : {R : ℕ → ℕ → Type 0} {P : ℕ → Type 0} {i j : ℕ} → ((a b : ℕ) → R a b → P b) → Plus R i j → P j
plus_ends {i = i} {j = j} f (last r) = f i j r
plus_ends f (next k r p) = plus_ends f p

-- steps of R lead from i to j over positions below k
abbrev pub Via : (ℕ → ℕ → Type 0) → ℕ → ℕ → ℕ → Type 0
Via R zero i j = R i j
Via R (suc k) i j = Via R k i j ⊎ (Via R k i k × Via R k k j)

module _ (R : ℕ → ℕ → Type 0) where
  via_plus : (k i j : ℕ) → Via R k i j → Plus R i j
  via_plus zero i j r = last r
  via_plus (suc k) i j (inl v) = via_plus k i j v
  via_plus (suc k) i j (inr v) = plus_trans (via_plus k i k v.0) (via_plus k k j v.1)

  via_step : (k i j : ℕ) → R i j → Via R k i j
  via_step zero i j r = r
  via_step (suc k) i j r = inl (via_step k i j r)

  -- two ways over positions below k that meet below k
  via_trans : (k i l j : ℕ) → l < k → Via R k i l → Via R k l j → Via R k i j
  via_trans zero i l j h v w = absurd (omega arith)
  via_trans (suc k) i l j h v w = go (eq-or-lt_of_le h) v w (via_trans k)
    where
      go : (suc l ≡ suc k) ⊎ (suc l < suc k) → Via R (suc k) i l → Via R (suc k) l j
          → ((i l j : ℕ) → l < k → Via R k i l → Via R k l j → Via R k i j) → Via R (suc k) i j
      go (inl e) v w again = inr (elim v [ inl x ↦ rw (suc_inj e) at x | inr x ↦ x.0 ], elim w [ inl x ↦ rw (suc_inj e) at x | inr x ↦ x.1 ])
      go (inr f) (inl v) (inl w) again = inl (again i l j (omega arith) v w)
      go (inr f) (inl v) (inr w) again = inr (again i l k (omega arith) v w.0, w.1)
      go (inr f) (inr v) (inl w) again = inr (v.0, again k l j (omega arith) v.1 w)
      go (inr f) (inr v) (inr w) again = inr (v.0, w.1)

  plus_via : (k : ℕ) → ((i j : ℕ) → R i j → j < k) → (i j : ℕ) → Plus R i j → Via R k i j
  plus_via k low i j (last r) = via_step k i j r
  plus_via k low i j (next l r p) = via_trans k i l j (low i l r) (via_step k i l r) (plus_via k low l j p)

  -- where all steps end below k, that is all
  pub via_all : (k : ℕ) → ((i j : ℕ) → R i j → j < k) → (i j : ℕ) (r : Bool) → Tells (Via R k i j) r → Tells (Plus R i j) r
  via_all k low i j = tells_as (via_plus k i j) (plus_via k low i j)

  -- the flag of one position more
  pub via_more : (k i j : ℕ) (a b c : Bool) → Tells (Via R k i j) a → Tells (Via R k i k) b → Tells (Via R k k j) c → Tells (Via R (suc k) i j) (a || (b && c))
  via_more k i j true b c v w x = inl v
  via_more k i j false true true v w x = inr (w, x)
  via_more k i j false true false v w x = λ y. elim y [ inl z ↦ v z | inr z ↦ x z.1 ]
  via_more k i j false false c v w x = λ y. elim y [ inl z ↦ v z | inr z ↦ w z.0 ]
