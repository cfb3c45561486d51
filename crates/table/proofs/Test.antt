-- Tests: a bit that can be computed, with what it tells, and ways to make tests of tests. They prove samples by computation, and they
-- give case splits. Assumes nothing.
use Prim.Native.Nat.{ℕ, zero, suc, ◌≤◌, ◌<◌}
use mathlib.Core.Path.{◌≡◌, subst}
use mathlib.Core.Logic.{◌⊎◌, inl, inr}
use mathlib.Core.Bool.{Bool, true, false, not, ◌&&◌, ◌||◌}
use native.Mathlib.Nat.{eq-or-lt_of_le, suc_inj}
use native.Mathlib.Omega.{arith}
use borrow.Author.Count.{below_none}
use lib.Dec.{T, ltb, leb, eqb, ltb→lt, lt→ltb, leb→le, le→leb, eqb→eq, eqb_refl, T_not, not_T}
use Rattle.table.specs.Steps.Found.{Lowest}
use Rattle.std.specs.Prelude.{Option, Some, None}

-- the bit is true exactly if P holds
pub record Test (P : Type 0) : Type 0 where
  pub run : Bool
  pub out : T run → P
  pub into : P → T run

-- either P holds or it does not
pub settle : {P : Type 0} → Test P → P ⊎ (¬ P)
settle p = go p.run p.out p.into
  where
    go : {P : Type 0} (b : Bool) → (T b → P) → (P → T b) → P ⊎ (¬ P)
    go true out into = inl (out tt)
    go false out into = inr into

-- bits of two
pub and_out : (a b : Bool) → T (a && b) → T a × T b
and_out true b h = (tt, h)
and_out false b h = absurd h

pub and_into : (a b : Bool) → T a → T b → T (a && b)
and_into true b g h = h
and_into false b g h = g

pub or_out : (a b : Bool) → T (a || b) → T a ⊎ T b
or_out true b h = inl tt
or_out false b h = inr h

pub or_left : (a b : Bool) → T a → T (a || b)
or_left true b h = tt
or_left false b h = absurd h

pub or_right : (a b : Bool) → T b → T (a || b)
or_right true b h = tt
or_right false b h = h

-- the three comparisons
abbrev pub is_less : (a b : ℕ) → Test (a < b)
is_less a b = record { run = ltb a b; out = ltb→lt a b; into = lt→ltb a b }

abbrev pub is_at_most : (a b : ℕ) → Test (a ≤ b)
is_at_most a b = record { run = leb a b; out = leb→le a b; into = le→leb a b }

abbrev pub is_equal : (a b : ℕ) → Test (a ≡ b)
is_equal a b = record { run = eqb a b; out = eqb→eq a b; into = λ e. subst (λ (c : ℕ). T (eqb a c)) e (eqb_refl a) }

-- tests of tests
module _ {P Q : Type 0} where
  abbrev pub both : Test P → Test Q → Test (P × Q)
  both p q = record {
    run = p.run && q.run;
    out = λ h. let r = and_out p.run q.run h in (p.out r.0, q.out r.1);
    into = λ h. and_into p.run q.run (p.into h.0) (q.into h.1);
  }

  abbrev pub either : Test P → Test Q → Test (P ⊎ Q)
  either p q = record {
    run = p.run || q.run;
    out = λ h. elim (or_out p.run q.run h) [ inl x ↦ inl (p.out x) | inr x ↦ inr (q.out x) ];
    into = λ h. elim h [ inl x ↦ or_left p.run q.run (p.into x) | inr x ↦ or_right p.run q.run (q.into x) ];
  }

  -- the same bit, for what P comes to
  abbrev pub means : (P → Q) → (Q → P) → Test P → Test Q
  means f g p = record { run = p.run; out = λ h. f (p.out h); into = λ q. p.into (g q) }

abbrev pub fails : {P : Type 0} → Test P → Test (¬ P)
fails p = record {
  run = not p.run;
  out = λ h x. T_not p.run h (p.into x);
  into = λ h. not_T p.run (λ x. h (p.out x));
}

abbrev pub implies : {P Q : Type 0} → Test P → Test Q → Test (P → Q)
implies p q = means (λ h x. elim h [ inl f ↦ absurd (f x) | inr y ↦ y ]) (λ h. elim (settle p) [ inl x ↦ inr (h x) | inr f ↦ inl f ])
    (either (fails p) q)

-- some number below n passes
abbrev pub some_below : ℕ → (ℕ → Bool) → Bool
some_below zero f = false
some_below (suc n) f = let rest = some_below n f in f n || rest

pub some_out : (n : ℕ) (f : ℕ → Bool) → T (some_below n f) → (i : ℕ) × (i < n) × T (f i)
some_out zero f h = absurd h
some_out (suc n) f h = elim (or_out (f n) (some_below n f) h) [
  | inl x ↦ (n, omega arith, x)
  | inr x ↦ let r = some_out n f x in (r.0, omega (arith, r.1), r.2)
]

pub some_into : (n : ℕ) (f : ℕ → Bool) (i : ℕ) → i < n → T (f i) → T (some_below n f)
some_into zero f i l h = absurd (omega arith)
some_into (suc n) f i l h = elim (eq-or-lt_of_le l) [
  | inl e ↦ or_left (f n) (some_below n f) (rw (← (suc_inj e)) h)
  | inr k ↦ or_right (f n) (some_below n f) (some_into n f i (omega arith) h)
]

module _ {P : ℕ → Type 0} (n : ℕ) (p : (i : ℕ) → Test (P i)) where
  abbrev pub some : Test ((i : ℕ) × (i < n) × P i)
  some = record {
    run = some_below n (λ i. (p i).run);
    out = λ h. let r = some_out n (λ i. (p i).run) h in (r.0, r.1, (p r.0).out r.2);
    into = λ h. some_into n (λ i. (p i).run) h.0 h.1 ((p h.0).into h.2);
  }

abbrev pub every : {P : ℕ → Type 0} (n : ℕ) → ((i : ℕ) → Test (P i)) → Test ((i : ℕ) → i < n → P i)
every n p = means (λ h i l. elim (settle (p i)) [ inl x ↦ x | inr f ↦ absurd (h (i, l, f)) ]) (λ h r. r.2 (h r.0 r.1))
    (fails (some n (λ i. fails (p i))))

-- the lowest number below n at which Good fails
abbrev pub lowest_of : {Good : ℕ → Type 0} (n : ℕ) → ((k : ℕ) → Test (Good k)) → Option ℕ
lowest_of zero t = None
lowest_of (suc n) t = elim (lowest_of n t) [ Some k ↦ Some k | None ↦ elim (t n).run [ true ↦ None | false ↦ Some n ] ]

pub lowest_of_lem : {Good : ℕ → Type 0} (n : ℕ) (t : (k : ℕ) → Test (Good k)) → Lowest Good n (lowest_of n t)
lowest_of_lem zero t = below_none _
lowest_of_lem {Good} (suc n) t = go (lowest_of n t) (lowest_of_lem n t) (t n).run (t n).out (t n).into
  where
    go : (found : Option ℕ) → Lowest Good n found → (b : Bool) → (T b → Good n) → (Good n → T b)
        → Lowest Good (suc n) (elim found [ Some k ↦ Some k | None ↦ elim b [ true ↦ None | false ↦ Some n ] ])
    go (Some k) h b out into = record { within = omega (arith, h.within); fails = h.fails; before = h.before }
    go None h true out into = λ k l. elim (eq-or-lt_of_le l) [ inl e ↦ rw (suc_inj e) (out tt) | inr m ↦ h k (omega arith) ]
    go None h false out into = record { within = omega arith; fails = into; before = h }
