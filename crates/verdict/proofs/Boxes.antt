-- The first list of numbers, in the stated order, that passes a test, searched for within bounds. Assumes nothing.
use Rattle.std.proofs.Common.{ℕ, zero, suc, ◌<◌, ◌≡◌, refl, inl, inr, Bool, true, false, List, [], ◌∷◌, eq-or-lt_of_le, arith, T}
use mathlib.Core.Option.{Option, none, some}
use native.Mathlib.Nat.{suc_inj}
use Rattle.table.specs.Lex.{Lex}
use Rattle.table.proofs.Lex.{lex_cases}

-- bounds for the numbers of a list, each by those before it
pub data Box : Type 0 where
  end : Box
  more : ℕ → (ℕ → Box) → Box

abbrev pub Inside : Box → List ℕ → Type 0
Inside end [] = Unit {0}
Inside end (k ∷ s) = ⊥
Inside (more n rest) [] = ⊥
Inside (more n rest) (k ∷ s) = (k < n) × Inside (rest k) s

-- the lowest number below n at which something is found, in front of what is found there
abbrev lowest : ℕ → (ℕ → Option (List ℕ)) → Option (List ℕ)
lowest zero g = none
lowest (suc n) g = elim (lowest n g) [ some s ↦ some s | none ↦ elim (g n) [ some s ↦ some (n ∷ s) | none ↦ none ] ]

abbrev pub first_in : Box → (List ℕ → Bool) → Option (List ℕ)
first_in end f = elim (f []) [ true ↦ some [] | false ↦ none ]
first_in (more n rest) f = lowest n (λ k. first_in (rest k) (λ s. f (k ∷ s)))

-- what was found is the first inside that passes, or none does
abbrev pub Finds : Box → (List ℕ → Bool) → Option (List ℕ) → Type 0
Finds box f none = (s : List ℕ) → Inside box s → ¬ T (f s)
Finds box f (some s) = Inside box s × T (f s) × ((t : List ℕ) → Inside box t → T (f t) → ¬ Lex t s)

module _ (rest : ℕ → Box) (f : List ℕ → Bool) where
  one_more : (n : ℕ) (low : Option (List ℕ)) → Finds (more n rest) f low → (here : Option (List ℕ)) → Finds (rest n) (λ s. f (n ∷ s)) here
      → Finds (more (suc n) rest) f (elim low [ some s ↦ some s | none ↦ elim here [ some s ↦ some (n ∷ s) | none ↦ none ] ])
  one_more n (some []) h here g = absurd h.0
  one_more n (some (k ∷ s)) h here g = ((omega (arith, h.0.0), h.0.1), h.1, first)
    where
      first : (t : List ℕ) → Inside (more (suc n) rest) t → T (f t) → ¬ Lex t (k ∷ s)
      first [] i q l = i
      first (a ∷ t) i q l = elim (eq-or-lt_of_le i.0) [
        | inl e ↦ elim (lex_cases l) [ inl m ↦ omega (arith, h.0.0) | inr r ↦ omega (arith, r.0, h.0.0) ]
        | inr m ↦ h.2 (a ∷ t) (omega arith, i.1) q l
      ]
  one_more n none h (some s) g = ((omega arith, g.0), g.1, first)
    where
      first : (t : List ℕ) → Inside (more (suc n) rest) t → T (f t) → ¬ Lex t (n ∷ s)
      first [] i q l = i
      first (a ∷ t) i q l = elim (eq-or-lt_of_le i.0) [
        | inl e ↦ elim (lex_cases l) [ inl m ↦ omega arith | inr r ↦ g.2 t (rw (suc_inj e) at i.1) (rw (suc_inj e) at q) r.1 ]
        | inr m ↦ h (a ∷ t) (omega arith, i.1) q
      ]
  one_more n none h none g = never
    where
      never : (t : List ℕ) → Inside (more (suc n) rest) t → ¬ T (f t)
      never [] i q = i
      never (a ∷ t) i q = elim (eq-or-lt_of_le i.0) [
        | inl e ↦ g t (rw (suc_inj e) at i.1) (rw (suc_inj e) at q)
        | inr m ↦ h (a ∷ t) (omega arith, i.1) q
      ]

  lowest_finds : (g : ℕ → Option (List ℕ)) → ((k : ℕ) → Finds (rest k) (λ s. f (k ∷ s)) (g k)) → (n : ℕ) → Finds (more n rest) f (lowest n g)
  lowest_finds g h zero = elim [ [] ↦ λ i q. i | k ∷ s ↦ λ i q. omega (arith, i.0) ]
  lowest_finds g h (suc n) = one_more n (lowest n g) (lowest_finds g h n) (g n) (h n)

end_finds : (f : List ℕ → Bool) (b : Bool) → f [] ≡ b → Finds end f (elim b [ true ↦ some [] | false ↦ none ])
end_finds f true e = (tt, rw e tt, elim [ [] ↦ λ i q l. elim l [ ] | k ∷ s ↦ λ i q l. i ])
end_finds f false e = elim [ [] ↦ λ i q. rw e at q | k ∷ s ↦ λ i q. i ]

pub first_in_lem : (box : Box) (f : List ℕ → Bool) → Finds box f (first_in box f)
first_in_lem end f = end_finds f (f []) refl
first_in_lem (more n rest) f = lowest_finds rest f (λ k. first_in (rest k) (λ s. f (k ∷ s))) (λ k. first_in_lem (rest k) (λ s. f (k ∷ s))) n
