-- The order of lists of numbers. Assumes nothing.
use Prim.Native.Nat.{ℕ, ◌≤◌, ◌<◌}
use mathlib.Core.Path.{◌≡◌, refl}
use mathlib.Core.Logic.{◌⊎◌, inl, inr}
use mathlib.Core.List.{List, [], ◌∷◌}
use native.Mathlib.Omega.{arith}
use lib.ListN.{length}
use Rattle.table.specs.Lex.{Lex, less, same}
use Rattle.table.proofs.Lists.{le_or_lt}

pub lex_cases : {a b : ℕ} {s t : List ℕ} → Lex (a ∷ s) (b ∷ t) → (a < b) ⊎ ((a ≡ b) × Lex s t)
lex_cases (less l) = inl l
lex_cases (same l) = inr (refl, l)

pub lex_more : {a b : ℕ} {s t : List ℕ} → b ≤ a → Lex (a ∷ s) (b ∷ t) → Lex s t
lex_more h l = elim (lex_cases l) [ inl k ↦ absurd (omega arith) | inr r ↦ r.1 ]

pub lex_end : ¬ Lex [] []
lex_end l = elim l [ ]

-- of two lists of one length one is lower, or they are the same
pub lex_tri : (s t : List ℕ) → length s ≡ length t → Lex s t ⊎ (s ≡ t) ⊎ Lex t s
lex_tri [] [] h = inr (inl refl)
lex_tri [] (b ∷ t) h = absurd (omega arith)
lex_tri (a ∷ s) [] h = absurd (omega arith)
lex_tri (a ∷ s) (b ∷ t) h = go (le_or_lt a b) (le_or_lt b a) (lex_tri s t (omega arith))
  where
    go : (a ≤ b) ⊎ (b < a) → (b ≤ a) ⊎ (a < b) → Lex s t ⊎ (s ≡ t) ⊎ Lex t s → Lex (a ∷ s) (b ∷ t) ⊎ (a ∷ s ≡ b ∷ t) ⊎ Lex (b ∷ t) (a ∷ s)
    go (inl g) (inr l) r = inl (less l)
    go (inr g) l r = inr (inr (less g))
    go (inl g) (inl l) (inl k) = let e : a ≡ b = omega arith in inl (rw e (same k))
    go (inl g) (inl l) (inr (inl f)) = let e : a ≡ b = omega arith in inr (inl (cc))
    go (inl g) (inl l) (inr (inr k)) = let e : a ≡ b = omega arith in inr (inr (rw e (same k)))
