-- The sign of a line tells the mark. Assumes nothing.
use Rattle.std.proofs.Common.{Option, Some, None, is_some, true, false, ℕ, ◌+◌, ◌≡◌, refl, sym, subst, inl, inr, List, arith, length}
use Rattle.grammar.specs.Bytes.{ascii}
use Rattle.listing.specs.Line.{sign_of}
use Rattle.listing.specs.Faults.{IsSet}
use Rattle.reading.specs.Steps.Matching.{Stands, ended, Matched, Signed}
use Rattle.reading.proofs.Standing.{stands_as}

plus : ended (sign_of 1) 32 ≡ ended (ascii "+") 32
unfolding sign_of
plus = refl

minus : ended (sign_of 2) 32 ≡ ended (ascii "-") 32
unfolding sign_of
minus = refl

module _ {t : List ℕ} {a : ℕ} where
  two_long : (w : List ℕ) {r : ℕ} → length w ≡ 2 → Stands t a w r → Stands t a w (a + 2)
  two_long w {r} e s = let q : r ≡ a + 2 = omega (arith, s.end) in subst (Stands t a w) q s

  pub sign_plus : (r : Option ℕ) → true ≡ is_some r → Matched t a (ended (ascii "+") 32) r → Signed t a 1
  sign_plus (Some r) e s = record { mark_set = inl refl; stands = stands_as (sym plus) (two_long (ended (ascii "+") 32) refl s) }
  sign_plus None e f = absurd (cc)

  pub sign_minus : (r : Option ℕ) → true ≡ is_some r → Matched t a (ended (ascii "-") 32) r → Signed t a 2
  sign_minus (Some r) e s = record { mark_set = inr refl; stands = stands_as (sym minus) (two_long (ended (ascii "-") 32) refl s) }
  sign_minus None e f = absurd (cc)

  pub sign_none : (r q : Option ℕ) → false ≡ is_some r → false ≡ is_some q → Matched t a (ended (ascii "+") 32) r → Matched t a (ended (ascii "-") 32) q
      → (m b : ℕ) → IsSet m → ¬ Stands t a (ended (sign_of m) 32) b
  sign_none (Some r) q e h f g m b k s = absurd (cc)
  sign_none None (Some q) e h f g m b k s = absurd (cc)
  sign_none None None e h f g m b (inl k) s = f b (stands_as plus (rw k at s))
  sign_none None None e h f g m b (inr k) s = g b (stands_as minus (rw k at s))
