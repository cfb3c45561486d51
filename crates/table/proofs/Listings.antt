-- Lists of numbers that stand once each: how many there can be, and one more; a list turned round. Assumes nothing.
use Prim.Native.Nat.{ℕ, zero, suc, ◌+◌, ◌-◌, ◌≤◌, ◌<◌}
use mathlib.Core.Path.{◌≡◌, refl, sym, ap, ◌∙◌}
use mathlib.Core.Logic.{◌⊎◌, inl, inr}
use mathlib.Core.List.{List, [], ◌∷◌}
use native.Mathlib.Nat.{eq-or-lt_of_le}
use native.Mathlib.Numerals.{add-one}
use native.Mathlib.Decide.{ℕ_discrete}
use native.Mathlib.Omega.{arith}
use lib.ListN.{length, get_or, set, length-set}
use lib.Seq.{get_or-set_same, get_or-set_other, ext_get_or}
use Rattle.table.proofs.Lists.{le_or_lt}
use Rattle.table.specs.Steps.Listed.{Among, Listed}
use Rattle.table.specs.Steps.Counts.{unpassed_sum, turned}
use Rattle.table.proofs.Sums.{sum_ones, sum_none, sum_pass, sum_empty, sum_left}

-- is x among the first n?
pub among : (list : List ℕ) (n x : ℕ) → Among list n x ⊎ (¬ Among list n x)
among list zero x = inr (λ a. absurd (omega (arith, a.low)))
among list (suc n) x = go (ℕ_discrete (get_or list n 0) x) (among list n x)
  where
    go : Dec (get_or list n 0 ≡ x) → Among list n x ⊎ (¬ Among list n x) → Among list (suc n) x ⊎ (¬ Among list (suc n) x)
    go (yes e) r = inl (record { at = n; low = omega arith; is = e })
    go (no d) (inl a) = inl (record { at = a.at; low = omega (arith, a.low); is = a.is })
    go (no d) (inr h) = inr (λ a. not a (eq-or-lt_of_le a.low))
      where
        not : (a : Among list (suc n) x) → (suc a.at ≡ suc n) ⊎ (suc a.at < suc n) → ⊥
        not a (inl e) = let q : a.at ≡ n = omega arith in d (ap (λ (k : ℕ). get_or list k 0) (sym q) ∙ a.is)
        not a (inr l) = h (record { at = a.at; low = omega arith; is = a.is })

-- of the numbers below e, those passed are as many as there are places
module _ (e n : ℕ) (list : List ℕ) (inside : (k : ℕ) → k < n → get_or list k 0 < e) (once : (j k : ℕ) → j < n → k < n → get_or list j 0 ≡ get_or list k 0 → j ≡ k) where
  fresh : (k : ℕ) → k < n → ¬ Among list k (get_or list k 0)
  fresh k h a = absurd (omega (arith, once a.at k (omega (arith, a.low)) h a.is, a.low))

  count_passed : (k : ℕ) → k ≤ n → unpassed_sum e (λ y. 1) list k + k ≡ e
  count_passed zero h = omega (arith, sum_none (λ y. 1) list e, sum_ones e)
  count_passed (suc k) h =
      let again = count_passed k (omega arith) in
      let step = sum_pass (λ y. 1) list e k (inside k (omega arith)) (fresh k (omega arith)) in
      omega (arith, rw (add-one k) at step)

-- one stands twice among the first n places
pub record Twice (list : List ℕ) (n : ℕ) : Type 0 where
  pub first : ℕ
  pub second : ℕ
  pub ordered : first < second
  pub low : second < n
  pub same : get_or list first 0 ≡ get_or list second 0

twice : (list : List ℕ) (n : ℕ) → Twice list n ⊎ ((j k : ℕ) → j < n → k < n → get_or list j 0 ≡ get_or list k 0 → j ≡ k)
twice list zero = inr (λ j k l. absurd (omega arith))
twice list (suc n) = go (among list n (get_or list n 0)) (twice list n)
  where
    go : Among list n (get_or list n 0) ⊎ (¬ Among list n (get_or list n 0)) → Twice list n ⊎ ((j k : ℕ) → j < n → k < n → get_or list j 0 ≡ get_or list k 0 → j ≡ k)
        → Twice list (suc n) ⊎ ((j k : ℕ) → j < suc n → k < suc n → get_or list j 0 ≡ get_or list k 0 → j ≡ k)
    go (inl a) r = inl (record { first = a.at; second = n; ordered = a.low; low = omega arith; same = a.is })
    go (inr out) (inl t) = inl (record { first = t.first; second = t.second; ordered = t.ordered; low = omega (arith, t.low); same = t.same })
    go (inr out) (inr once) = inr (λ j k l m. both j k (eq-or-lt_of_le l) (eq-or-lt_of_le m))
      where
        both : (j k : ℕ) → (suc j ≡ suc n) ⊎ (suc j < suc n) → (suc k ≡ suc n) ⊎ (suc k < suc n) → get_or list j 0 ≡ get_or list k 0 → j ≡ k
        both j k (inl p) (inl q) e = omega arith
        both j k (inl p) (inr q) e =
            let z : j ≡ n = omega arith in
            absurd (out (record { at = k; low = omega arith; is = sym e ∙ ap (λ (i : ℕ). get_or list i 0) z }))
        both j k (inr p) (inl q) e =
            let z : k ≡ n = omega arith in
            absurd (out (record { at = j; low = omega arith; is = e ∙ ap (λ (i : ℕ). get_or list i 0) z }))
        both j k (inr p) (inr q) e = once j k (omega arith) (omega arith) e

-- more places than numbers
pub pigeons : (e : ℕ) (list : List ℕ) → ((k : ℕ) → k < e + 1 → get_or list k 0 < e) → Twice list (e + 1)
pigeons e list inside = go (twice list (e + 1))
  where
    go : Twice list (e + 1) ⊎ ((j k : ℕ) → j < e + 1 → k < e + 1 → get_or list j 0 ≡ get_or list k 0 → j ≡ k) → Twice list (e + 1)
    go (inl t) = t
    go (inr once) = absurd (omega (arith, count_passed e (e + 1) list inside once (e + 1) (omega arith)))

-- the first n values of a function
unfoldable pub values : (ℕ → ℕ) → ℕ → List ℕ
values f zero = []
values f (suc n) = f 0 ∷ values (λ k. f (suc k)) n

pub value_at : (f : ℕ → ℕ) (n k : ℕ) → k < n → get_or (values f n) k 0 ≡ f k
unfolding values
value_at f zero k l = absurd (omega arith)
value_at f (suc n) zero l = refl
value_at f (suc n) (suc k) l = value_at (λ i. f (suc i)) n k (omega arith)

module _ {e n : ℕ} {list : List ℕ} (l : Listed e n list) where
  count : (k : ℕ) → k ≤ n → unpassed_sum e (λ y. 1) list k + k ≡ e
  count = count_passed e n list l.inside l.once

  pub listed_within : n ≤ e
  listed_within = omega (arith, count n (omega arith))

  -- one below e that is not listed leaves room
  pub listed_room : (x : ℕ) → x < e → ¬ Among list n x → n < e
  listed_room x h out = go (le_or_lt e n)
    where
      go : (e ≤ n) ⊎ (n < e) → n < e
      go (inr m) = m
      go (inl m) =
          let z : unpassed_sum e (λ y. 1) list n ≡ 0 = omega (arith, count n (omega arith)) in
          absurd (omega (arith, sum_empty (λ y. 1) list e n x z h out))

  -- a list of fewer leaves one out
  pub listed_left : n < e → (x : ℕ) × (x < e) × (¬ Among list n x)
  listed_left h = go (sum_left (λ y. 1) list e n (omega (arith, count n (omega arith))))
    where
      go : (x : ℕ) × (x < e) × (1 ≤ 1) × (¬ Among list n x) → (x : ℕ) × (x < e) × (¬ Among list n x)
      go (x, m, o, out) = (x, m, out)

  -- one more
  pub listed_keeps : (x k : ℕ) → k < n → get_or (set list n x) k 0 ≡ get_or list k 0
  listed_keeps x k h = get_or-set_other list n k x 0 (omega arith)

  module _ (x : ℕ) (h : x < e) (out : ¬ Among list n x) where
    pub listed_here : get_or (set list n x) n 0 ≡ x
    listed_here = get_or-set_same list n x 0 (omega (arith, listed_room x h out, l.room))

    pub listed_more : Listed e (n + 1) (set list n x)
    listed_more = record {
      room = omega (arith, length-set list n x, l.room);
      inside = λ k m. inside k (eq-or-lt_of_le m);
      once = λ j k m i. once j k (eq-or-lt_of_le m) (eq-or-lt_of_le i);
    }
      where
        inside : (k : ℕ) → (suc k ≡ n + 1) ⊎ (suc k < n + 1) → get_or (set list n x) k 0 < e
        inside k (inl q) = let z : k ≡ n = omega arith in rw (z, listed_here) h
        inside k (inr m) = rw (listed_keeps x k (omega arith)) (l.inside k (omega arith))

        once : (j k : ℕ) → (suc j ≡ n + 1) ⊎ (suc j < n + 1) → (suc k ≡ n + 1) ⊎ (suc k < n + 1) → get_or (set list n x) j 0 ≡ get_or (set list n x) k 0 → j ≡ k
        once j k (inl p) (inl q) s = omega arith
        once j k (inl p) (inr q) s =
            let z : j ≡ n = omega arith in
            absurd (out (record { at = k; low = omega arith; is = sym (listed_keeps x k (omega arith)) ∙ sym s ∙ rw z listed_here }))
        once j k (inr p) (inl q) s =
            let z : k ≡ n = omega arith in
            absurd (out (record { at = j; low = omega arith; is = sym (listed_keeps x j (omega arith)) ∙ s ∙ rw z listed_here }))
        once j k (inr p) (inr q) s = l.once j k (omega arith) (omega arith) (sym (listed_keeps x j (omega arith)) ∙ s ∙ listed_keeps x k (omega arith))

    pub among_more : (y : ℕ) → Among list n y → Among (set list n x) (n + 1) y
    among_more y a = record { at = a.at; low = omega (arith, a.low); is = listed_keeps x a.at a.low ∙ a.is }

    pub among_new : Among (set list n x) (n + 1) x
    among_new = record { at = n; low = omega arith; is = listed_here }

pub listed_none : {e : ℕ} {list : List ℕ} → e ≤ length list → Listed e 0 list
listed_none h = record { room = h; inside = λ k l. absurd (omega arith); once = λ j k l. absurd (omega arith) }

-- turned round, a list has its last first
pub turned_length : (list : List ℕ) (n : ℕ) → length (turned list n) ≡ n
unfolding turned
turned_length list zero = refl
turned_length list (suc n) = ap suc (turned_length list n)

pub turned_at : (list : List ℕ) (n k : ℕ) → k < n → get_or (turned list n) k 0 ≡ get_or list (n - 1 - k) 0
unfolding turned
turned_at list zero k l = absurd (omega arith)
turned_at list (suc n) zero l = let e : n ≡ suc n - 1 - 0 = omega arith in ap (λ (i : ℕ). get_or list i 0) e
turned_at list (suc n) (suc k) l = let e : n - 1 - k ≡ suc n - 1 - suc k = omega arith in turned_at list n k (omega arith) ∙ ap (λ (i : ℕ). get_or list i 0) e

-- what is written at a place stands at the place turned round
pub turned_set : (list : List ℕ) (n k x : ℕ) → k < n → n ≤ length list → turned (set list k x) n ≡ set (turned list n) (n - 1 - k) x
turned_set list n k x l h = ext_get_or 0 (turned (set list k x) n) (set (turned list n) (n - 1 - k) x) same (λ i m. at i (rw (turned_length (set list k x) n) at m) (ℕ_discrete i (n - 1 - k)))
  where
    same : length (turned (set list k x) n) ≡ length (set (turned list n) (n - 1 - k) x)
    same = omega (arith, turned_length (set list k x) n, length-set (turned list n) (n - 1 - k) x, turned_length list n)

    at : (i : ℕ) → i < n → Dec (i ≡ n - 1 - k) → get_or (turned (set list k x) n) i 0 ≡ get_or (set (turned list n) (n - 1 - k) x) i 0
    at i m (yes e) =
        let back : n - 1 - i ≡ k = omega arith in
        turned_at (set list k x) n i m ∙ rw (back, e) (get_or-set_same list k x 0 (omega arith) ∙ sym (get_or-set_same (turned list n) (n - 1 - k) x 0 (omega (arith, turned_length list n))))
    at i m (no d) = turned_at (set list k x) n i m ∙ get_or-set_other list k (n - 1 - i) x 0 (omega arith) ∙ sym (turned_at list n i m) ∙ sym (get_or-set_other (turned list n) (n - 1 - k) i x 0 d)
