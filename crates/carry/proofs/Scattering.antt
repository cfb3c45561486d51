-- Marks moved by a relation: one pair, none at all, one relation after another, and another relation that says the same. Assumes nothing.
use Prim.Native.Nat.{ℕ, ◌+◌, ◌<◌}
use mathlib.Core.Path.{◌≡◌, refl, ◌∙◌}
use mathlib.Core.Logic.{◌⊎◌, inl, inr}
use mathlib.Core.List.{List}
use native.Mathlib.Decide.{ℕ_discrete}
use native.Mathlib.Omega.{arith}
use lib.ListN.{length, get_or, set, length-set}
use lib.Seq.{get_or-set_same, get_or-set_other}
use Rattle.carry.specs.Steps.Scattering.{MarkMoved, moved, unmoved, ByteMoved, found, unfound, Scattered, Pair, Pairs}

pub scattered_pair : (marks out lost : List ℕ) (p q : ℕ) → p < length lost → q < length out
    → Scattered (Pair p q) marks out lost (set out q (get_or marks p 0)) (set lost p 0)
scattered_pair marks out lost p q hp hq = record {
  out_size = length-set out q (get_or marks p 0);
  lost_size = length-set lost p 0;
  marks_at = λ b. mark b (ℕ_discrete b q);
  bytes_at = λ a. byte a (ℕ_discrete a p);
}
  where
    mark : (b : ℕ) → Dec (b ≡ q) → MarkMoved (λ a. Pair p q a b) marks (get_or out b 0) (get_or (set out q (get_or marks p 0)) b 0)
    mark b (yes e) = moved p (refl, e) (rw e (get_or-set_same out q (get_or marks p 0) 0 hq))
    mark b (no d) = unmoved (λ a h. d h.1) (get_or-set_other out q b (get_or marks p 0) 0 d)

    byte : (a : ℕ) → Dec (a ≡ p) → ByteMoved (Pair p q a) (get_or lost a 0) (get_or (set lost p 0) a 0)
    byte a (yes e) = found q (e, refl) (rw e (get_or-set_same lost p 0 0 hp))
    byte a (no d) = unfound (λ b h. d h.0) (get_or-set_other lost p a 0 0 d)

pub scattered_none : (R : ℕ → ℕ → Type 0) (marks out lost : List ℕ) → ((p q : ℕ) → ¬ R p q) → Scattered R marks out lost out lost
scattered_none R marks out lost n = record {
  out_size = refl;
  lost_size = refl;
  marks_at = λ q. unmoved (λ p. n p q) refl;
  bytes_at = λ p. unfound (n p) refl;
}

-- T says what R or S say
pub record Either (R S T : ℕ → ℕ → Type 0) : Type 0 where
  pub first : (p q : ℕ) → R p q → T p q
  pub second : (p q : ℕ) → S p q → T p q
  pub split : (p q : ℕ) → T p q → R p q ⊎ S p q

pub scattered_then : (R S T : ℕ → ℕ → Type 0) {marks out lost m l n k : List ℕ} → Either R S T → Scattered R marks out lost m l → Scattered S marks m l n k
    → Scattered T marks out lost n k
scattered_then R S T {marks} {out} {lost} {m} {l} {n} {k} e r s = record {
  out_size = s.out_size ∙ r.out_size;
  lost_size = s.lost_size ∙ r.lost_size;
  marks_at = λ q. mark q (r.marks_at q) (s.marks_at q);
  bytes_at = λ p. byte p (r.bytes_at p) (s.bytes_at p);
}
  where
    mark : (q : ℕ) → MarkMoved (λ p. R p q) marks (get_or out q 0) (get_or m q 0) → MarkMoved (λ p. S p q) marks (get_or m q 0) (get_or n q 0)
        → MarkMoved (λ p. T p q) marks (get_or out q 0) (get_or n q 0)
    mark q f (moved p h is) = moved p (e.second p q h) is
    mark q (moved p h is) (unmoved never same) = moved p (e.first p q h) (same ∙ is)
    mark q (unmoved none is) (unmoved never same) = unmoved (λ p t. elim (e.split p q t) [ inl h ↦ none p h | inr h ↦ never p h ]) (same ∙ is)

    byte : (p : ℕ) → ByteMoved (R p) (get_or lost p 0) (get_or l p 0) → ByteMoved (S p) (get_or l p 0) (get_or k p 0) → ByteMoved (T p) (get_or lost p 0) (get_or k p 0)
    byte p f (found q h is) = found q (e.second p q h) is
    byte p (found q h is) (unfound never same) = found q (e.first p q h) (same ∙ is)
    byte p (unfound none is) (unfound never same) = unfound (λ q t. elim (e.split p q t) [ inl h ↦ none q h | inr h ↦ never q h ]) (same ∙ is)

pub scattered_as : (R S : ℕ → ℕ → Type 0) {marks out lost m l : List ℕ} → ((p q : ℕ) → R p q → S p q) → ((p q : ℕ) → S p q → R p q)
    → Scattered R marks out lost m l → Scattered S marks out lost m l
scattered_as R S {marks} {out} {lost} {m} {l} there back r = record {
  out_size = r.out_size;
  lost_size = r.lost_size;
  marks_at = λ q. mark q (r.marks_at q);
  bytes_at = λ p. byte p (r.bytes_at p);
}
  where
    mark : (q : ℕ) → MarkMoved (λ p. R p q) marks (get_or out q 0) (get_or m q 0) → MarkMoved (λ p. S p q) marks (get_or out q 0) (get_or m q 0)
    mark q (moved p h is) = moved p (there p q h) is
    mark q (unmoved none is) = unmoved (λ p h. none p (back p q h)) is

    byte : (p : ℕ) → ByteMoved (R p) (get_or lost p 0) (get_or l p 0) → ByteMoved (S p) (get_or lost p 0) (get_or l p 0)
    byte p (found q h is) = found q (there p q h) is
    byte p (unfound none is) = unfound (λ q h. none q (back p q h)) is

-- what is before the next one is before this one, or is it
pub below_next : (a i : ℕ) → a < i + 1 → (a < i) ⊎ (a ≡ i)
below_next a i l = elim (ℕ_discrete a i) [ yes e ↦ inr e | no d ↦ inl (omega arith) ]

-- pairs side by side, one after another
module _ (a b : ℕ) where
  pub pairs_more : {marks out lost m l n k : List ℕ} (j : ℕ) → Scattered (Pairs a b j) marks out lost m l → Scattered (Pair (a + j) (b + j)) marks m l n k
      → Scattered (Pairs a b (j + 1)) marks out lost n k
  pairs_more j = scattered_then (Pairs a b j) (Pair (a + j) (b + j)) (Pairs a b (j + 1)) (record {
    first = λ p q h. record { k = h.k; below = omega (arith, h.below); pair = h.pair };
    second = λ p q h. record { k = j; below = omega arith; pair = h };
    split = λ p q h. elim (below_next h.k j h.below) [
      | inl l ↦ inl (record { k = h.k; below = l; pair = h.pair })
      | inr e ↦ inr (rw e at h.pair)
    ];
  })
