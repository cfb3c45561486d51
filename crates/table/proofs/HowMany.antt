-- How many numbers have a property: there is one answer, and it is the length of every list that holds each of them once. Assumes nothing.
use Prim.Native.Nat.{ℕ, zero, suc, ◌+◌, ◌≤◌, ◌<◌}
use mathlib.Core.Path.{◌≡◌, refl, sym, ap, subst, ◌∙◌}
use mathlib.Core.Logic.{◌≢◌, ◌⊎◌, inl, inr}
use mathlib.Core.Bool.{Bool, true, false}
use mathlib.Core.List.{List, [], ◌∷◌}
use native.Mathlib.Nat.{eq-or-lt_of_le, suc_inj, add-zero, add-suc, suc-add}
use native.Mathlib.Numerals.{add-one}
use native.Mathlib.Omega.{arith}
use lib.Dec.{T}
use lib.ListN.{length}
use Rattle.table.specs.HowMany.{HowMany, none, one_more, no_more, Tallied, some, nothing}
use Rattle.table.proofs.Test.{Test, is_equal, means}

pub many_one : {P : ℕ → Type 0} {n c d : ℕ} → HowMany P n c → HowMany P n d → c ≡ d
many_one none none = refl
many_one (one_more a p) (one_more b q) = ap suc (many_one a b)
many_one (one_more a p) (no_more b q) = absurd (q p)
many_one (no_more a p) (one_more b q) = absurd (p q)
many_one (no_more a p) (no_more b q) = many_one a b

pub many_most : {P : ℕ → Type 0} {n c : ℕ} → HowMany P n c → c ≤ n
many_most none = omega arith
many_most (one_more a p) = omega (arith, many_most a)
many_most (no_more a p) = omega (arith, many_most a)

-- the next number is looked at: it has P, or not
pub many_next : {P : ℕ → Type 0} {n c : ℕ} → HowMany P n c → P n → HowMany P (n + 1) (c + 1)
many_next {n = n} {c = c} h p = rw (add-one n, add-one c) (one_more h p)

pub many_skip : {P : ℕ → Type 0} {n c : ℕ} → HowMany P n c → ¬ P n → HowMany P (n + 1) c
many_skip {n = n} h d = rw (add-one n) (no_more h d)

-- two properties of the same numbers
pub many_as : {P Q : ℕ → Type 0} {n c : ℕ} → ((q : ℕ) → q < n → P q → Q q) → ((q : ℕ) → q < n → Q q → P q) → HowMany P n c → HowMany Q n c
many_as f g none = none
many_as f g (one_more a p) = one_more (many_as (λ q l. f q (omega arith)) (λ q l. g q (omega arith)) a) (f _ (omega arith) p)
many_as f g (no_more a d) = no_more (many_as (λ q l. f q (omega arith)) (λ q l. g q (omega arith)) a) (λ q. d (g _ (omega arith) q))

-- no number has it exactly if the answer is 0
pub many_none : {P : ℕ → Type 0} (n : ℕ) → ((q : ℕ) → q < n → ¬ P q) → HowMany P n 0
many_none zero d = none
many_none (suc n) d = no_more (many_none n (λ q l. d q (omega arith))) (d n (omega arith))

pub none_many : {P : ℕ → Type 0} {n c : ℕ} → HowMany P n c → c ≡ 0 → (q : ℕ) → q < n → ¬ P q
none_many none e q l p = omega arith
none_many (one_more a r) e q l p = omega arith
none_many {P} (no_more {n = n} a d) e q l p = elim (eq-or-lt_of_le l) [ inl f ↦ d (rw (suc_inj f) at p) | inr k ↦ none_many a e q (omega arith) p ]

pub some_many : {P : ℕ → Type 0} {n c : ℕ} → HowMany P n c → c ≢ 0 → (q : ℕ) × (q < n) × P q
some_many none d = absurd (d refl)
some_many (one_more {n = n} a p) d = (n, omega arith, p)
some_many (no_more a f) d = let r = some_many a d in (r.0, omega (arith, r.1), r.2)

-- all numbers have it exactly if the answer is n
pub many_all : {P : ℕ → Type 0} (n : ℕ) → ((q : ℕ) → q < n → P q) → HowMany P n n
many_all zero h = none
many_all (suc n) h = one_more (many_all n (λ q l. h q (omega arith))) (h n (omega arith))

pub many_full : {P : ℕ → Type 0} {n c : ℕ} → HowMany P n c → ((q : ℕ) → q < n → ¬ ¬ P q) → c ≡ n
many_full none h = refl
many_full (one_more a p) h = ap suc (many_full a (λ q l. h q (omega arith)))
many_full (no_more {n = n} a d) h = absurd (h n (omega arith) d)

-- no fewer have what follows from it
pub many_fewer : {P Q : ℕ → Type 0} {n c k : ℕ} → ((q : ℕ) → q < n → P q → ¬ ¬ Q q) → HowMany P n c → HowMany Q n k → c ≤ k
many_fewer f none none = omega arith
many_fewer f (one_more a p) (one_more b q) = omega (arith, many_fewer (λ q l. f q (omega arith)) a b)
many_fewer f (one_more {n = n} a p) (no_more b d) = absurd (f n (omega arith) p d)
many_fewer f (no_more a e) (one_more b q) = omega (arith, many_fewer (λ q l. f q (omega arith)) a b)
many_fewer f (no_more a e) (no_more b d) = many_fewer (λ q l. f q (omega arith)) a b

-- two properties that no number has both: as many have one of them as have each together
pub many_either : {P Q : ℕ → Type 0} {n c k : ℕ} → ((q : ℕ) → q < n → P q → ¬ Q q) → HowMany P n c → HowMany Q n k → HowMany (λ q. P q ⊎ Q q) n (c + k)
many_either f none none = none
many_either f (one_more {n = n} a p) (one_more b q) = absurd (f n (omega arith) p q)
many_either f (one_more {c = c} a p) (no_more {c = k} b d) = rw (suc-add c k) (one_more (many_either (λ q l. f q (omega arith)) a b) (inl p))
many_either f (no_more {c = c} a e) (one_more {c = k} b q) = rw (add-suc c k) (one_more (many_either (λ q l. f q (omega arith)) a b) (inr q))
many_either f (no_more a e) (no_more b d) = no_more (many_either (λ q l. f q (omega arith)) a b) (λ s. elim s [ inl p ↦ e p | inr q ↦ d q ])

-- at most as many as each together have one of two
pub many_union : {P Q : ℕ → Type 0} {n c k : ℕ} → HowMany P n c → HowMany Q n k → (m : ℕ) × HowMany (λ q. P q ⊎ Q q) n m × (m ≤ c + k)
many_union none none = (0, none, omega arith)
many_union (one_more a p) (one_more b q) = let u = many_union a b in (suc u.0, one_more u.1 (inl p), omega (arith, u.2))
many_union (one_more a p) (no_more b d) = let u = many_union a b in (suc u.0, one_more u.1 (inl p), omega (arith, u.2))
many_union (no_more a e) (one_more b q) = let u = many_union a b in (suc u.0, one_more u.1 (inr q), omega (arith, u.2))
many_union (no_more a e) (no_more b d) = let u = many_union a b in (u.0, no_more u.1 (λ s. elim s [ inl p ↦ e p | inr q ↦ d q ]), u.2)

-- those of the first a, and those of the b behind them
pub many_behind : {P Q : ℕ → Type 0} (a : ℕ) {b c k : ℕ} → ((q : ℕ) → q < b → P (a + q) → Q q) → ((q : ℕ) → q < b → Q q → P (a + q))
    → HowMany P a c → HowMany Q b k → HowMany P (a + b) (c + k)
many_behind {P} a {c = c} out into h none = rw (add-zero a, add-zero c) h
many_behind {P} a {c = c} out into h (one_more {n = b} {c = k} m q) =
    rw (add-suc a b, add-suc c k) (one_more (many_behind a (λ q l. out q (omega arith)) (λ q l. into q (omega arith)) h m) (into b (omega arith) q))
many_behind {P} a {c = c} out into h (no_more {n = b} {c = k} m d) =
    rw (add-suc a b) (no_more (many_behind a (λ q l. out q (omega arith)) (λ q l. into q (omega arith)) h m) (λ p. d (out b (omega arith) p)))

-- one number more has it, and else the same
pub many_more : {P Q : ℕ → Type 0} {n c : ℕ} (p : ℕ) → p < n → P p → ¬ Q p → ((q : ℕ) → q ≢ p → P q → Q q) → ((q : ℕ) → q ≢ p → Q q → P q)
    → HowMany Q n c → HowMany P n (suc c)
many_more p l h d f g none = absurd (omega arith)
many_more {P} {Q} p l h d f g (one_more {n = n} a r) = elim (eq-or-lt_of_le l) [
  | inl e ↦ absurd (d (rw (suc_inj e) r))
  | inr k ↦ one_more (many_more p (omega arith) h d f g a) (g n (omega arith) r)
]
many_more {P} {Q} p l h d f g (no_more {n = n} a r) = elim (eq-or-lt_of_le l) [
  | inl e ↦ one_more (many_as (λ q k. g q (omega (arith, suc_inj e))) (λ q k. f q (omega (arith, suc_inj e))) a) (rw (suc_inj e) at h)
  | inr k ↦ no_more (many_more p (omega arith) h d f g a) (λ x. r (f n (omega arith) x))
]

pub many_single : {P : ℕ → Type 0} {n : ℕ} (p : ℕ) → p < n → P p → ((q : ℕ) → P q → q ≡ p) → HowMany P n 1
many_single {P} {n} p l h only = many_more {Q = λ q. ⊥} p l h (λ x. x) (λ q d x. d (only q x)) (λ q d x. absurd x) (many_none n (λ q k x. x))

-- those below a, and those from a on
pub many_join : {P R : ℕ → Type 0} {a b c k : ℕ} → a ≤ b → HowMany P a c → ((q : ℕ) → R q → a ≤ q) → ((q : ℕ) → a ≤ q → q < b → P q → R q)
    → ((q : ℕ) → q < b → R q → P q) → HowMany R b k → HowMany P b (c + k)
many_join {P} {R} {a} {b} {c} l h from out into none = let e : a ≡ 0 = omega arith in rw (← add-zero c) at (rw e at h)
many_join {P} {R} {a} {b} {c} l h from out into (one_more {n = n} {c = k} m r) =
    rw (add-suc c k) (one_more (many_join (from n r) h from (λ q g i. out q g (omega arith)) (λ q i. into q (omega arith)) m) (into n (omega arith) r))
many_join {P} {R} {a} {b} {c} l h from out into (no_more {n = n} {c = k} m d) = elim (eq-or-lt_of_le l) [
  | inl e ↦
      let z : 0 ≡ k = many_one (many_none n (λ q i r. omega (arith, from q r))) m in
      rw (← z, ← e, add-zero c) h
  | inr i ↦ no_more (many_join (omega arith) h from (λ q g j. out q g (omega arith)) (λ q j. into q (omega arith)) m) (λ p. d (out n (omega arith) (omega arith) p))
]

-- the lowest and how many: one answer, for properties of the same numbers the same
pub tallied_one : {P : ℕ → Type 0} {n l c m d : ℕ} → Tallied P n l c → Tallied P n m d → (l ≡ m) × (c ≡ d)
tallied_one {l = l} {m = m} (some i p f h) (some j q g k) = (omega (arith, f m j q, g l i p), many_one h k)
tallied_one {l = l} (some i p f h) (nothing d e z) = absurd (d l i p)
tallied_one {m = m} (nothing d e z) (some j q g k) = absurd (d m j q)
tallied_one (nothing d e z) (nothing f g y) = (e ∙ sym g, z ∙ sym y)

pub tallied_as : {P Q : ℕ → Type 0} {n l c : ℕ} → ((q : ℕ) → q < n → P q → Q q) → ((q : ℕ) → q < n → Q q → P q) → Tallied P n l c → Tallied Q n l c
tallied_as f g (some i p least h) = some i (f _ i p) (λ q l x. least q l (g q l x)) (many_as f g h)
tallied_as f g (nothing d e z) = nothing (λ q l x. d q l (g q l x)) e z

pub tallied_single : {P : ℕ → Type 0} {n : ℕ} (p : ℕ) → p < n → P p → ((q : ℕ) → P q → q ≡ p) → Tallied P n p 1
tallied_single p l h only = some l h (λ q i x. omega (arith, only q x)) (many_single p l h only)

pub tallied_many : {P : ℕ → Type 0} {n l c : ℕ} → Tallied P n l c → HowMany P n c
tallied_many (some i p least h) = h
tallied_many {n = n} (nothing d e z) = rw z (many_none n d)

pub tallied_start : {P : ℕ → Type 0} → Tallied P 0 0 0
tallied_start = nothing (λ q l. absurd (omega arith)) refl refl

-- the same, computed by a test of each number
abbrev count_if : Bool → ℕ → ℕ
count_if true c = suc c
count_if false c = c

abbrev pub how_many_by : {P : ℕ → Type 0} (n : ℕ) → ((q : ℕ) → Test (P q)) → ℕ
how_many_by zero t = 0
how_many_by (suc n) t = let rest = how_many_by n t in count_if (t n).run rest

pub count_by : {P : ℕ → Type 0} (n : ℕ) (t : (q : ℕ) → Test (P q)) → HowMany P n (how_many_by n t)
count_by zero t = none
count_by {P} (suc n) t = go (t n).run (t n).out (t n).into (count_by n t)
  where
    go : {c : ℕ} (b : Bool) → (T b → P n) → (P n → T b) → HowMany P n c → HowMany P (suc n) (count_if b c)
    go true out into h = one_more h (out tt)
    go false out into h = no_more h into

abbrev pub how_many : {P : ℕ → Type 0} (n c : ℕ) → ((q : ℕ) → Test (P q)) → Test (HowMany P n c)
how_many {P} n c t = means (λ e. subst (HowMany P n) e (count_by n t)) (λ h. many_one (count_by n t) h) (is_equal (how_many_by n t) c)

-- a number stands in a list
pub data Member (q : ℕ) : List ℕ → Type 0 where
  first : {l : List ℕ} → Member q (q ∷ l)
  later : {x : ℕ} {l : List ℕ} → Member q l → Member q (x ∷ l)

-- no number stands in it twice
pub data Once : List ℕ → Type 0 where
  empty : Once []
  longer : {x : ℕ} {l : List ℕ} → ¬ Member x l → Once l → Once (x ∷ l)

-- the list holds those of the numbers below n that have P, each once, in any order
pub record Lists (P : ℕ → Type 0) (n : ℕ) (l : List ℕ) : Type 0 where
  pub once : Once l
  pub only : (q : ℕ) → Member q l → (q < n) × P q
  pub every : (q : ℕ) → q < n → P q → Member q l

-- the list without one of its numbers
record Without (x : ℕ) (l : List ℕ) : Type 0 where
  rest : List ℕ
  shorter : length l ≡ suc (length rest)
  once : Once rest
  back : (q : ℕ) → Member q rest → Member q l × (q ≢ x)
  stays : (q : ℕ) → Member q l → q ≢ x → Member q rest

without : {x : ℕ} {l : List ℕ} → Member x l → Once l → Without x l
without {x} (first {l = l}) (longer d o) =
    record { rest = l; shorter = refl; once = o; back = λ q m. (later m, λ e. d (rw e at m)); stays = λ q m n. go m n }
  where
    go : {q : ℕ} → Member q (x ∷ l) → q ≢ x → Member q l
    go first n = absurd (n refl)
    go (later m) n = m
without {x} (later {x = y} {l = l} m) (longer d o) = up (without m o)
  where
    up : Without x l → Without x (y ∷ l)
    up w = record {
      rest = y ∷ w.rest;
      shorter = ap suc w.shorter;
      once = longer (λ n. d (w.back y n).0) w.once;
      back = λ q n. out n;
      stays = λ q n f. keep n f;
    }
      where
        out : {q : ℕ} → Member q (y ∷ w.rest) → Member q (y ∷ l) × (q ≢ x)
        out first = (first, λ e. d (rw (← e) at m))
        out {q} (later n) = (later (w.back q n).0, (w.back q n).1)

        keep : {q : ℕ} → Member q (y ∷ l) → q ≢ x → Member q (y ∷ w.rest)
        keep first f = first
        keep {q} (later n) f = later (w.stays q n f)

nobody : (l : List ℕ) → ((q : ℕ) → ¬ Member q l) → length l ≡ 0
nobody [] h = refl
nobody (x ∷ l) h = absurd (h x first)

-- however they are listed, the answer is the length of the list
pub many_listed : {P : ℕ → Type 0} {n c : ℕ} {l : List ℕ} → HowMany P n c → Lists P n l → length l ≡ c
many_listed {l = l} none s = nobody l (λ q m. omega (arith, (s.only q m).0))
many_listed {P} {l = l} (one_more {n = n} {c = c} a p) s = go (without (s.every n (omega arith) p) s.once) (λ l t. many_listed a t)
  where
    go : Without n l → ((k : List ℕ) → Lists P n k → length k ≡ c) → length l ≡ suc c
    go w again = w.shorter ∙ ap suc (again w.rest (record {
      once = w.once;
      only = λ q m. let o = s.only q (w.back q m).0 in let d = (w.back q m).1 in let i = o.0 in (omega arith, o.1);
      every = λ q h r. w.stays q (s.every q (omega arith) r) (λ e. omega arith);
    }))
many_listed {P} {l = l} (no_more {n = n} a d) s = many_listed a (record {
  once = s.once;
  only = λ q m. let o = s.only q m in let i = o.0 in let e : q ≢ n = λ e. d (rw e at o.1) in (omega arith, o.1);
  every = λ q h r. s.every q (omega arith) r;
})
