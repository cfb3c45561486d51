-- The chain, computed from tests of the steps: the lowest way of each number of steps, and of these the first. Assumes nothing.
use Prim.Native.Nat.{ℕ, zero, suc, ◌≤◌, ◌<◌}
use mathlib.Core.Path.{◌≡◌, refl, sym, ap, subst, ◌∙◌}
use mathlib.Core.Logic.{inl, inr}
use mathlib.Core.Bool.{Bool, true, false}
use mathlib.Core.List.{List, [], ◌∷◌}
use mathlib.Core.Option.{Option, none, some}
use native.Mathlib.Nat.{eq-or-lt_of_le, suc_inj}
use native.Mathlib.Omega.{arith}
use borrow.Author.Tests.{eqb-true, eqb-false}
use lib.Dec.{T, eqb}
use Rattle.table.specs.Plus.{Plus}
use Rattle.table.proofs.Lists.{le_or_lt}
use Rattle.table.proofs.Test.{Test}
use Rattle.chain.specs.Chain.{Fewest}
use Rattle.chain.specs.Steps.Ways.{Away}
use Rattle.chain.proofs.Chains.{plus_short}
use Rattle.chain.proofs.Ways.{Best, best_none, best_more, best_fewest, away_zero, away_split}

-- what is found at the lowest number below n at which something is
abbrev first_of : ℕ → (ℕ → Option (List ℕ)) → Option (List ℕ)
first_of zero g = none
first_of (suc n) g = elim (first_of n g) [ some s ↦ some s | none ↦ g n ]

abbrev FirstOf : ℕ → (ℕ → Option (List ℕ)) → Option (List ℕ) → Type 0
FirstOf n g none = (k : ℕ) → k < n → g k ≡ none
FirstOf n g (some s) = (k : ℕ) × (k < n) × (g k ≡ some s) × ((l : ℕ) → l < k → g l ≡ none)

first_more : (n : ℕ) (g : ℕ → Option (List ℕ)) (low : Option (List ℕ)) → FirstOf n g low → (here : Option (List ℕ)) → g n ≡ here
    → FirstOf (suc n) g (elim low [ some s ↦ some s | none ↦ here ])
first_more n g (some s) h here e = (h.0, omega (arith, h.1), h.2, h.3)
first_more n g none h none e = λ k l. elim (eq-or-lt_of_le l) [ inl f ↦ ap g (suc_inj f) ∙ e | inr m ↦ h k (omega arith) ]
first_more n g none h (some s) e = (n, omega arith, e, h)

first_of_lem : (n : ℕ) (g : ℕ → Option (List ℕ)) → FirstOf n g (first_of n g)
first_of_lem zero g = λ k l. absurd (omega arith)
first_of_lem (suc n) g = first_more n g (first_of n g) (first_of_lem n g) (g n) refl

-- something, if a test passes
abbrev if : Bool → Option (List ℕ) → Option (List ℕ)
if true o = o
if false o = none

is_some : Option (List ℕ) → Type 0
is_some none = ⊥
is_some (some s) = Unit {0}

none_some : {s : List ℕ} → none ≡ some s → ⊥
unfolding is_some
none_some e = subst is_some (sym e) tt

some_one : {s t : List ℕ} → some s ≡ some t → s ≡ t
some_one {s} e = ap (λ (o : Option (List ℕ)). elim o [ some u ↦ u | none ↦ s ]) e

if_some : (b : Bool) {o : Option (List ℕ)} {s : List ℕ} → if b o ≡ some s → T b × (o ≡ some s)
if_some true e = (tt, e)
if_some false e = absurd (none_some e)

if_none : (b : Bool) {o : Option (List ℕ)} → if b o ≡ none → T b → o ≡ none
if_none true e t = e
if_none false e t = absurd t

abbrev in_front : ℕ → Option (List ℕ) → Option (List ℕ)
in_front p none = none
in_front p (some s) = some (p ∷ s)

module _ {R : ℕ → ℕ → Type 0} (n : ℕ) (low : (a b : ℕ) → R a b → b < n) (step : (i j : ℕ) → Test (R i j)) (j : ℕ) where
  -- the lowest way of m steps from p to j
  abbrev way_by : ℕ → ℕ → Option (List ℕ)
  way_by zero p = if (eqb p j) (some (j ∷ []))
  way_by (suc m) p = in_front p (first_of n (λ q. if (step p q).run (way_by m q)))

  abbrev WayBy : ℕ → ℕ → Option (List ℕ) → Type 0
  WayBy m p none = ¬ Away R j m p
  WayBy m p (some s) = Best R j m p s

  way_zero : (p : ℕ) (b : Bool) → eqb p j ≡ b → WayBy 0 p (if b (some (j ∷ [])))
  way_zero p true e = let f : p ≡ j = eqb-true p j e in subst (λ (x : ℕ). Best R j 0 x (j ∷ [])) (sym f) best_none
  way_zero p false e = λ a. eqb-false p j e (away_zero a)

  way_more : (m p : ℕ) → ((q : ℕ) → WayBy m q (way_by m q)) → (r : Option (List ℕ)) → FirstOf n (λ q. if (step p q).run (way_by m q)) r → WayBy (suc m) p (in_front p r)
  way_more m p h none f = λ a. go (away_split a)
    where
      go : (q : ℕ) × R p q × Away R j m q → ⊥
      go (q, r, b) = subst (λ (o : Option (List ℕ)). WayBy m q o) (if_none (step p q).run (f q (low p q r)) ((step p q).into r)) (h q) b
  way_more m p h (some s) (k, l, e, before) = best_more ((step p k).out found.0) least (subst (λ (o : Option (List ℕ)). WayBy m k o) found.1 (h k))
    where
      found : T (step p k).run × (way_by m k ≡ some s)
      found = if_some (step p k).run e

      least : (q : ℕ) → R p q → Away R j m q → k ≤ q
      least q r b = elim (le_or_lt k q) [
        | inl h ↦ h
        | inr g ↦ absurd (subst (λ (o : Option (List ℕ)). WayBy m q o) (if_none (step p q).run (before q g) ((step p q).into r)) (h q) b)
      ]

  way_by_lem : (m p : ℕ) → WayBy m p (way_by m p)
  way_by_lem zero p = way_zero p (eqb p j) refl
  way_by_lem (suc m) p = way_more m p (way_by_lem m) (first_of n (λ q. if (step p q).run (way_by m q))) (first_of_lem n (λ q. if (step p q).run (way_by m q)))

  -- the chain from i, nothing where there is none
  abbrev or_empty : Option (List ℕ) → List ℕ
  or_empty none = []
  or_empty (some s) = s

  abbrev pub chain_by : ℕ → List ℕ
  chain_by i = or_empty (first_of n (λ m. way_by (suc m) i))

  pub chain_by_lem : (i : ℕ) → Plus R i j → Fewest R i j (chain_by i)
  chain_by_lem i p = go (first_of n (λ m. way_by (suc m) i)) (first_of_lem n (λ m. way_by (suc m) i))
    where
      none_at : (m : ℕ) → way_by (suc m) i ≡ none → ¬ Away R j (suc m) i
      none_at m e = subst (λ (o : Option (List ℕ)). WayBy (suc m) i o) e (way_by_lem (suc m) i)

      go : (r : Option (List ℕ)) → FirstOf n (λ m. way_by (suc m) i) r → Fewest R i j (or_empty r)
      go none f = absurd (short (plus_short low p).steps (plus_short low p).some (plus_short low p).few (plus_short low p).away)
        where
          short : (t : ℕ) → 1 ≤ t → t ≤ n → ¬ Away R j t i
          short zero a b = absurd (omega arith)
          short (suc t) a b = none_at t (f t (omega arith))
      go (some s) (k, l, e, before) = best_fewest (omega arith) fewer (subst (λ (o : Option (List ℕ)). WayBy (suc k) i o) e (way_by_lem (suc k) i))
        where
          fewer : (t : ℕ) → 1 ≤ t → t < suc k → ¬ Away R j t i
          fewer zero a b = absurd (omega arith)
          fewer (suc t) a b = none_at t (before t (omega arith))
