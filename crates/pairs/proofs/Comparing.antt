-- What the bits that changed say of the marks, and how many marks changed. Assumes nothing.
use Prim.Native.Nat.{ℕ, ◌+◌, ◌*◌, ◌/◌, ◌%◌, ◌≤◌, ◌<◌}
use mathlib.Core.Path.{◌≡◌, refl, sym, ◌∙◌}
use mathlib.Core.Logic.{◌≢◌, ◌⊎◌, inl, inr}
use mathlib.Core.Bool.{Bool, true, false}
use native.Mathlib.Nat.{eq-or-lt_of_le}
use native.Mathlib.Decide.{ℕ_discrete}
use native.Mathlib.Omega.{arith}
use lib.Count.{ones}
use lib.ListN.{get_or}
use Rattle.table.specs.HowMany.{HowMany, none, one_more, no_more}
use Rattle.table.specs.Steps.Found.{Tells}
use Rattle.table.proofs.Lowest.{told_yes, told_no}
use Rattle.policy.specs.Steps.Squares.{Flags, on, off}
use Rattle.proposing.specs.Proposals.{Kept, Changed}
use Rattle.pairs.specs.Maps.{Maps, mark_of, marks_of, Paired}
use Rattle.pairs.specs.Steps.Changing.{bit_in, ChangedIn, OtherAt, Picked}
use Rattle.pairs.proofs.Bytes.{place_byte, place_bit}
use Rattle.pairs.proofs.Spells.{marks_at, mark_clear}
use Rattle.pairs.proofs.Picks.{many_bits}

-- the mark at bit j of byte k; that a bit of it changed, that it is a mark, that it is kept
abbrev mark_in : Maps → ℕ → ℕ → ℕ
mark_in m k j = bit_in (get_or m.allowed k 0) j + 2 * bit_in (get_or m.forbidden k 0) j

abbrev ChangedAt : Maps → Maps → ℕ → ℕ → Type 0
ChangedAt m n k j = ChangedIn (get_or m.allowed k 0) (get_or m.forbidden k 0) (get_or n.allowed k 0) (get_or n.forbidden k 0) j

abbrev ApartAt : Maps → ℕ → ℕ → Type 0
ApartAt m k j = ¬ ((bit_in (get_or m.allowed k 0) j ≡ 1) × (bit_in (get_or m.forbidden k 0) j ≡ 1))

abbrev KeptAt : Maps → Maps → ℕ → ℕ → Type 0
KeptAt m n k j = (mark_in n k j ≡ mark_in m k j) ⊎ ((mark_in m k j ≡ 1) × (mark_in n k j ≡ 2))

mark_in_lem : (m : Maps) (k j : ℕ) → j < 8 → mark_of m (8 * k + j) ≡ mark_in m k j
mark_in_lem m k j l = rw (place_byte k j l, place_bit k j l) refl

module _ (m n : Maps) (k j : ℕ) where
  mark_changed : ChangedAt m n k j → mark_in n k j ≢ mark_in m k j
  mark_changed (inl d) e = d (omega arith)
  mark_changed (inr d) e = d (omega arith)

  bits_changed : mark_in n k j ≢ mark_in m k j → ChangedAt m n k j
  bits_changed d = elim (ℕ_discrete (bit_in (get_or m.allowed k 0) j) (bit_in (get_or n.allowed k 0) j)) [ yes e ↦ inr (λ h. d (omega arith)) | no c ↦ inl c ]

  changed_flags : {x : ℕ} → Flags (ChangedAt m n k j) x → Flags (mark_in n k j ≢ mark_in m k j) x
  changed_flags (on c e) = on (mark_changed c) e
  changed_flags (off d e) = off (λ c. d (bits_changed c)) e

  mark_other : OtherAt m n k j → ¬ KeptAt m n k j
  mark_other o (inl e) = mark_changed o.0 e
  mark_other o (inr (x, y)) = o.1 (omega arith, omega arith)

  mark_kept : ApartAt m k j → ApartAt n k j → ¬ OtherAt m n k j → KeptAt m n k j
  mark_kept s t d = go (ℕ_discrete (mark_in n k j) (mark_in m k j)) (ℕ_discrete (bit_in (get_or m.allowed k 0) j) 1) (ℕ_discrete (bit_in (get_or n.forbidden k 0) j) 1)
    where
      go : Dec (mark_in n k j ≡ mark_in m k j) → Dec (bit_in (get_or m.allowed k 0) j ≡ 1) → Dec (bit_in (get_or n.forbidden k 0) j ≡ 1) → KeptAt m n k j
      go (yes e) a g = inl e
      go (no c) (yes a) (yes g) =
          let f : bit_in (get_or m.forbidden k 0) j ≢ 1 = λ h. s (a, h) in
          let b : bit_in (get_or n.allowed k 0) j ≢ 1 = λ h. t (h, g) in
          inr (omega arith, omega arith)
      go (no c) (no a) g = absurd (d (bits_changed c, λ h. a h.0))
      go (no c) (yes a) (no g) = absurd (d (bits_changed c, λ h. g h.1))

-- those below v are all that have P
many_front : {P : ℕ → Type 0} {v n c : ℕ} → v ≤ n → ((q : ℕ) → v ≤ q → ¬ P q) → HowMany P n c → HowMany P v c
many_front {v = v} l d none = let e : v ≡ 0 = omega arith in rw e none
many_front l d (one_more {n = n} h p) = elim (eq-or-lt_of_le l) [ inl e ↦ rw e (one_more h p) | inr k ↦ absurd (d n (omega arith) p) ]
many_front l d (no_more h x) = elim (eq-or-lt_of_le l) [ inl e ↦ rw e (no_more h x) | inr k ↦ many_front (omega arith) d h ]

module _ {v : ℕ} {m n : Maps} (w : Paired v m) (u : Paired v n) where
  other_spoils : (p : ℕ) → OtherAt m n (p / 8) (p % 8) → ¬ Kept (marks_of v m) (marks_of v n) p
  other_spoils p o = rw (marks_at w p, marks_at u p) (mark_other m n (p / 8) (p % 8) o)

  no_other_keeps : (p : ℕ) → p < v → ¬ OtherAt m n (p / 8) (p % 8) → Kept (marks_of v m) (marks_of v n) p
  no_other_keeps p l d = rw (marks_at w p, marks_at u p) (mark_kept m n (p / 8) (p % 8) (w.apart p l) (u.apart p l) d)

  -- what the flag of another change tells of the marks, of one privilege and of all
  pub other_told : (p : ℕ) (r : Bool) → Tells (OtherAt m n (p / 8) (p % 8)) r → r ≡ true → ¬ Kept (marks_of v m) (marks_of v n) p
  other_told p r h e = other_spoils p (told_yes r h e)

  pub kept_told : (p : ℕ) → p < v → (r : Bool) → Tells (OtherAt m n (p / 8) (p % 8)) r → r ≡ false → Kept (marks_of v m) (marks_of v n) p
  kept_told p l r h e = no_other_keeps p l (told_no r h e)

  pub all_told : (end : ℕ) → v ≤ 8 * end → (r : Bool) → Tells ((k : ℕ) → k < end → (j : ℕ) → j < 8 → ¬ OtherAt m n k j) r → r ≡ true
      → (p : ℕ) → p < v → Kept (marks_of v m) (marks_of v n) p
  all_told end g r h e p l = no_other_keeps p l (told_yes r h e (p / 8) (omega arith) (p % 8) (omega arith))

  -- the changes of eight privileges more are counted, and behind the last there is none
  pub many_eight : (k : ℕ) {c r : ℕ} → HowMany (Changed (marks_of v m) (marks_of v n)) (8 * k) c → Picked (ChangedAt m n k) r
      → HowMany (Changed (marks_of v m) (marks_of v n)) (8 * (k + 1)) (c + ones r)
  many_eight k {c} {r} h s =
      let e : 8 * k + 8 ≡ 8 * (k + 1) = omega arith in
      rw (← e) (many_bits 8 (8 * k) c r h s.fits (λ j l.
      rw (marks_at w (8 * k + j) ∙ mark_in_lem m k j l, marks_at u (8 * k + j) ∙ mark_in_lem n k j l) (changed_flags m n k j (s.tells j l))))

  pub many_end : {end c : ℕ} → v ≤ end → HowMany (Changed (marks_of v m) (marks_of v n)) end c → HowMany (Changed (marks_of v m) (marks_of v n)) v c
  many_end l h = many_front l (λ q k d. d (marks_at u q ∙ mark_clear u q k ∙ sym (marks_at w q ∙ mark_clear w q k))) h
