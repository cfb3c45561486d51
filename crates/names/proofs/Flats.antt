-- Every content's particles are its used names and bytes between them. Assumes nothing.
use Rattle.std.proofs.Common.{ℕ, suc, ◌≤◌, ◌<◌, ◌≡◌, refl, ◌≢◌, false, List, ◌++◌, append_assoc, arith}
use Prim.Native.Char.{code}
use Rattle.grammar.specs.Bytes.{is_name_start, Byte, stop, go_on, done, byte}
use Rattle.grammar.specs.Tree.{Mark, Particle, Particles, Use, Nth, first, later, uses_in, uses_in_all}
use Rattle.grammar.specs.Grammar.{Blanks, MarkAt, no_mark, question, asterisk, plus, Cp, cp_name, cp_group}
use Rattle.grammar.specs.Grammar.{Children, as_choice, as_sequence, Row, closed, separated, Names, no_name, one_name}
use Rattle.grammar.proofs.Pieces.{clash, off, apart, space_no_start, After, mark_ends_name, after_blanks}
use Rattle.grammar.proofs.Unique.{Separator, bar, comma}
use Rattle.grammar.proofs.OneTree.{names_after}
use Rattle.scan.proofs.Agreeing.{span_le}
use Rattle.names.specs.Steps.Uses.{Flat, at_end, no_use, a_use}

module _ {t : List ℕ} {c : ℕ} {us : List Use} where
  pub flat_byte : {a x : ℕ} → Byte t a x → is_name_start x ≡ false → x ≢ code ">" → Flat t (suc a) c us → Flat t a c us
  flat_byte g e n r = no_use (off g e) (λ h. n (clash g h)) r

  pub flat_blanks : {a b : ℕ} → Blanks t a b → Flat t b c us → Flat t a c us
  flat_blanks stop r = r
  flat_blanks (go_on o s) r = no_use (apart space_no_start o) (λ h. off h refl o) (flat_blanks s r)

  flat_mark : {a b : ℕ} {k : Mark} → MarkAt t a b k → Flat t b c us → Flat t a c us
  flat_mark no_mark r = r
  flat_mark (question g) r = flat_byte g refl (λ e. omega arith) r
  flat_mark (asterisk g) r = flat_byte g refl (λ e. omega arith) r
  flat_mark (plus g) r = flat_byte g refl (λ e. omega arith) r

-- a byte that separates is none of a name, and no '>'
record Between (s : ℕ) : Type 0 where
  is : Separator s
  no_start : is_name_start s ≡ false
  no_close : s ≢ code ">"

between_bar : Between (code "|")
between_bar = record { is = bar; no_start = refl; no_close = λ e. omega arith }

between_comma : Between (code ",")
between_comma = record { is = comma; no_start = refl; no_close = λ e. omega arith }

mutual
  cp_flat : {t : List ℕ} {a b c : ℕ} {p : Particle} {us : List Use} → Cp t a b p → After t b → Flat t b c us → Flat t a c (uses_in p ++ us)
  cp_flat (cp_name n m) f r = a_use refl n (mark_ends_name m (λ e. f.no_name)) (flat_mark m r)
  cp_flat (cp_group g) f r = children_flat g r

  pub children_flat : {t : List ℕ} {a b c : ℕ} {p : Particle} {us : List Use} → Children t a b p → Flat t b c us → Flat t a c (uses_in p ++ us)
  children_flat (as_choice g s r m) x = flat_byte g refl (λ e. omega arith) (flat_blanks s (row_flat between_bar r (flat_mark m x)))
  children_flat (as_sequence g s r m) x = flat_byte g refl (λ e. omega arith) (flat_blanks s (row_flat between_comma r (flat_mark m x)))

  row_flat : {t : List ℕ} {s a b c : ℕ} {ps : Particles} {us : List Use} → Between s → Row t s a b ps → Flat t b c us
      → Flat t a c (uses_in_all ps ++ us)
  row_flat w (closed p s g) x = cp_flat p (after_blanks s g refl refl) (flat_blanks s (flat_byte g refl (λ e. omega arith) x))
  row_flat {us = us} w (separated {p = q} {ps = qs} p s g v r) x =
      let y = flat_blanks s (flat_byte g w.no_start w.no_close (flat_blanks v (row_flat w r x))) in
      rw (append_assoc (uses_in q) (uses_in_all qs) us) (cp_flat p (after_blanks s g w.is.no_name w.is.unmarked) y)

-- the names of mixed content
pub names_flat : {t : List ℕ} {a b c : ℕ} {us vs : List Use} → Names t a b us → Flat t b c vs → Flat t a c (us ++ vs)
names_flat (no_name s (byte g (byte h done))) x = flat_blanks s (flat_byte g refl (λ e. omega arith) (flat_byte h refl (λ e. omega arith) x))
names_flat (one_name s g r n e m) x =
    let y = a_use e n (names_after m).no_name (names_flat m x) in
    flat_blanks s (flat_byte g refl (λ i. omega arith) (flat_blanks r y))

-- where its names stand
pub flat_le : {t : List ℕ} {a b : ℕ} {us : List Use} → Flat t a b us → a ≤ b
flat_le at_end = omega arith
flat_le (no_use f g r) = omega (arith, flat_le r)
flat_le (a_use e n f r) = omega (arith, span_le n.rest, flat_le r)

pub flat_within : {t : List ℕ} {a b j : ℕ} {us : List Use} {u : Use} → Flat t a b us → Nth us j u → (a ≤ u.place) × (u.place < b)
flat_within {t = t} {j = j} {u = u} (at_end {a = a}) n = elim n [ ]
flat_within (no_use f g r) n = let h = flat_within r n in (omega (arith, h.0), h.1)
flat_within (a_use e m f r) first = (omega arith, omega (arith, span_le m.rest, flat_le r))
flat_within (a_use e m f r) (later n) = let h = flat_within r n in (omega (arith, span_le m.rest, h.0), h.1)
