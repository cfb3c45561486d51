-- Sums over the numbers below one, those apart that stand in the first places of a list; how often a number stands in a list. Assumes nothing.
use Prim.Native.Nat.{ℕ, zero, suc, ◌+◌, ◌≤◌, ◌<◌}
use mathlib.Core.Path.{◌≡◌, refl, sym, ap, ◌∙◌}
use mathlib.Core.Logic.{◌≢◌, ◌⊎◌, inl, inr}
use mathlib.Core.Bool.{Bool, true, false, cond}
use mathlib.Core.List.{List}
use native.Mathlib.Nat.{eq-or-lt_of_le}
use native.Mathlib.Numerals.{add-one}
use native.Mathlib.Decide.{ℕ_discrete}
use native.Mathlib.Omega.{arith}
use borrow.Author.Tests.{eq-eqb, ne_eqb}
use lib.Dec.{eqb}
use lib.ListN.{get_or}
use Rattle.table.specs.Sum.{sum_below}
use Rattle.table.proofs.Sum.{sum_more, sum_mono, sum_part, Falls, falls_some}
use Rattle.table.specs.Steps.Listed.{Among}
use Rattle.table.specs.Steps.Counts.{occurs, unpassed, unpassed_sum}

pub sum_same : {f g : ℕ → ℕ} (n : ℕ) → ((k : ℕ) → k < n → f k ≡ g k) → sum_below f n ≡ sum_below g n
unfolding sum_below
sum_same zero h = refl
sum_same (suc n) h = rw (sum_same n (λ k l. h k (omega arith)), h n (omega arith))

-- one place is cleared
pub sum_clear : {f g : ℕ → ℕ} (n p : ℕ) → p < n → g p ≡ 0 → ((k : ℕ) → k ≢ p → f k ≡ g k) → sum_below f n ≡ sum_below g n + f p
unfolding sum_below
sum_clear zero p l z h = absurd (omega arith)
sum_clear {f} {g} (suc n) p l z h = go (eq-or-lt_of_le l) (λ m. sum_clear n p m z h)
  where
    go : (suc p ≡ suc n) ⊎ (suc p < suc n) → (p < n → sum_below f n ≡ sum_below g n + f p) → sum_below f n + f n ≡ sum_below g n + g n + f p
    go (inl e) again =
        let q : p ≡ n = omega arith in
        let same : sum_below f n ≡ sum_below g n = sum_same n (λ k m. h k (omega arith)) in
        let zn : g n ≡ 0 = rw (← q) z in
        let fn : f n ≡ f p = rw q in
        omega arith
    go (inr m) again =
        let s = again (omega arith) in
        let fn : f n ≡ g n = h n (omega arith) in
        omega arith

pub sum_zero : (f : ℕ → ℕ) (n k : ℕ) → sum_below f n ≡ 0 → k < n → f k ≡ 0
sum_zero f n k z l = omega (arith, sum_part f k n l)

pub sum_some : {f : ℕ → ℕ} (n : ℕ) → 1 ≤ sum_below f n → (k : ℕ) × (k < n) × (1 ≤ f k)
sum_some {f} n l = go (falls_some f n 0 l)
  where
    go : (k : ℕ) × (k < n) × Falls f 0 k → (k : ℕ) × (k < n) × (1 ≤ f k)
    go (k, h, a) = (k, h, omega (arith, a.from, a.until))

pub sum_ones : (n : ℕ) → sum_below (λ k. 1) n ≡ n
unfolding sum_below
sum_ones zero = refl
sum_ones (suc n) = omega (arith, sum_ones n)

-- what is not passed
module _ (f : ℕ → ℕ) (order : List ℕ) where
  pub unpassed_none : (y : ℕ) → unpassed f order 0 y ≡ f y
  unfolding unpassed
  unpassed_none y = refl

  at_next : (n : ℕ) → unpassed f order (n + 1) (get_or order n 0) ≡ 0
  unfolding unpassed
  at_next n = rw (add-one, eq-eqb (get_or order n 0) (get_or order n 0) refl)

  at_other : (n y : ℕ) → y ≢ get_or order n 0 → unpassed f order (n + 1) y ≡ unpassed f order n y
  unfolding unpassed
  at_other n y d = rw (add-one, ne_eqb (get_or order n 0) y (λ e. d (sym e)))

  pub unpassed_not : (n y : ℕ) → ¬ Among order n y → unpassed f order n y ≡ f y
  unfolding unpassed
  unpassed_not zero y h = refl
  unpassed_not (suc n) y h =
      rw (ne_eqb (get_or order n 0) y (λ e. h (record { at = n; low = omega arith; is = e })))
      (unpassed_not n y (λ a. h (record { at = a.at; low = omega (arith, a.low); is = a.is })))

  pub unpassed_among : (n y : ℕ) → Among order n y → unpassed f order n y ≡ 0
  unfolding unpassed
  unpassed_among zero y a = absurd (omega (arith, a.low))
  unpassed_among (suc n) y a = go (ℕ_discrete (get_or order n 0) y) (λ b. unpassed_among n y b)
    where
      go : Dec (get_or order n 0 ≡ y) → (Among order n y → unpassed f order n y ≡ 0) → cond (eqb (get_or order n 0) y) 0 (unpassed f order n y) ≡ 0
      go (yes e) again = rw (eq-eqb _ _ e)
      go (no d) again = rw (ne_eqb _ _ d) (again (less (eq-or-lt_of_le a.low)))
        where
          less : (suc a.at ≡ suc n) ⊎ (suc a.at < suc n) → Among order n y
          less (inl e) = let q : a.at ≡ n = omega arith in absurd (d (ap (λ (k : ℕ). get_or order k 0) (sym q) ∙ a.is))
          less (inr m) = record { at = a.at; low = omega arith; is = a.is }

  pub sum_none : (e : ℕ) → unpassed_sum e f order 0 ≡ sum_below f e
  unfolding unpassed_sum
  sum_none e = sum_same e (λ k l. unpassed_none k)

  -- one more is passed
  pub sum_pass : (e n : ℕ) → get_or order n 0 < e → ¬ Among order n (get_or order n 0)
      → unpassed_sum e f order n ≡ unpassed_sum e f order (n + 1) + f (get_or order n 0)
  unfolding unpassed_sum
  sum_pass e n l h =
      sum_clear e (get_or order n 0) l (at_next n) (λ k d. sym (at_other n k d)) ∙ ap (λ (m : ℕ). sum_below (unpassed f order (n + 1)) e + m) (unpassed_not n (get_or order n 0) h)

  -- nothing is left of a number that is not passed
  pub sum_empty : (e n y : ℕ) → unpassed_sum e f order n ≡ 0 → y < e → ¬ Among order n y → f y ≡ 0
  unfolding unpassed_sum
  sum_empty e n y z l h = sym (unpassed_not n y h) ∙ sum_zero (unpassed f order n) e y z l

  -- something is left, of a number that is not passed
  pub sum_left : (e n : ℕ) → 1 ≤ unpassed_sum e f order n → (y : ℕ) × (y < e) × (1 ≤ f y) × (¬ Among order n y)
  unfolding unpassed_sum
  sum_left e n l = go (sum_some e l)
    where
      go : (k : ℕ) × (k < e) × (1 ≤ unpassed f order n k) → (y : ℕ) × (y < e) × (1 ≤ f y) × (¬ Among order n y)
      go (k, h, m) =
          let out : ¬ Among order n k = λ a. absurd (omega (arith, unpassed_among n k a)) in
          (k, h, omega (arith, unpassed_not n k out), out)

-- it reads only the first n places
pub unpassed_same : (f : ℕ → ℕ) (a b : List ℕ) (n y : ℕ) → ((k : ℕ) → k < n → get_or a k 0 ≡ get_or b k 0) → unpassed f a n y ≡ unpassed f b n y
unfolding unpassed
unpassed_same f a b zero y h = refl
unpassed_same f a b (suc n) y h = rw (h n (omega arith), unpassed_same f a b n y (λ k l. h k (omega arith)))

pub sum_reads : (f : ℕ → ℕ) (a b : List ℕ) (e n : ℕ) → ((k : ℕ) → k < n → get_or a k 0 ≡ get_or b k 0) → unpassed_sum e f a n ≡ unpassed_sum e f b n
unfolding unpassed_sum
sum_reads f a b e n h = sum_same e (λ k l. unpassed_same f a b n k h)

-- how often a number stands in a list
module _ (list : List ℕ) (x : ℕ) where
  pub occurs_none : occurs list x 0 ≡ 0
  unfolding occurs sum_below
  occurs_none = refl

  pub occurs_here : (n : ℕ) → get_or list n 0 ≡ x → occurs list x (n + 1) ≡ occurs list x n + 1
  unfolding occurs
  occurs_here n e = sum_more (λ i. cond (eqb (get_or list i 0) x) 1 0) n ∙ rw (eq-eqb _ _ e)

  pub occurs_not : (n : ℕ) → get_or list n 0 ≢ x → occurs list x (n + 1) ≡ occurs list x n
  unfolding occurs
  occurs_not n d = sum_more (λ i. cond (eqb (get_or list i 0) x) 1 0) n ∙ rw (ne_eqb _ _ d) (omega arith)

  pub occurs_mono : (m n : ℕ) → m ≤ n → occurs list x m ≤ occurs list x n
  unfolding occurs
  occurs_mono m n l = sum_mono (λ i. cond (eqb (get_or list i 0) x) 1 0) m n l

  pub occurs_few : (n : ℕ) → occurs list x n ≤ n
  unfolding occurs sum_below
  occurs_few zero = omega arith
  occurs_few (suc n) = go (eqb (get_or list n 0) x) (occurs_few n)
    where
      go : (r : Bool) → sum_below (λ i. cond (eqb (get_or list i 0) x) 1 0) n ≤ n → sum_below (λ i. cond (eqb (get_or list i 0) x) 1 0) n + cond r 1 0 ≤ suc n
      go true h = omega arith
      go false h = omega arith

  -- it stands there exactly if it does at one of those places
  pub occurs_some : (n : ℕ) → 1 ≤ occurs list x n → Among list n x
  unfolding occurs
  occurs_some n l = go (sum_some n l)
    where
      here : (k : ℕ) → k < n → Dec (get_or list k 0 ≡ x) → 1 ≤ cond (eqb (get_or list k 0) x) 1 0 → Among list n x
      here k h (yes e) m = record { at = k; low = h; is = e }
      here k h (no d) m = absurd (omega (arith, rw (ne_eqb _ _ d) at m))

      go : (k : ℕ) × (k < n) × (1 ≤ cond (eqb (get_or list k 0) x) 1 0) → Among list n x
      go (k, h, m) = here k h (ℕ_discrete (get_or list k 0) x) m

  pub occurs_among : (n : ℕ) → Among list n x → 1 ≤ occurs list x n
  occurs_among n a = omega (arith, occurs_here a.at a.is, occurs_mono (a.at + 1) n (omega (arith, a.low)))
