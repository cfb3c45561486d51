-- Line by line: the next line starts where the last one ended, privileges that are not set add nothing, marks above those that are listed do not
-- matter, and a line has at most 109 bytes. Assumes nothing.
use Rattle.std.proofs.Common.{ℕ, zero, suc, ◌+◌, ◌-◌, ◌*◌, ◌≤◌, ◌<◌, ◌≡◌, refl, sym, ap, subst, ◌∙◌, inl, inr, ⊎_elim, Bool, true, false, List, [], ◌∷◌, ◌++◌, arith, eqb, length, get_or, take, length-append, take-append-drop, take-take}
use Prim.Native.Char.{code}
use Rattle.std.proofs.Math.Seq.{slice}
use Rattle.table.specs.Words.{types}
use Rattle.table.specs.Named.{Named, texts, inserts, deletes, replaces, name_of}
use Rattle.table.specs.Check.{Accepted}
use Rattle.table.proofs.Named.{Each, names_types}
use Rattle.table.proofs.Lists.{le_or_lt}
use Rattle.labels.specs.Steps.Booked.{Labelled}
use Rattle.listing.specs.Line.{sign_of, parts_of, spaced}
use Rattle.listing.specs.Listing.{LineOf, Lists, none, unset, set}
use Rattle.listing.specs.Faults.{Starts, behind_newline, LineAt}
use Rattle.listing.proofs.Lines.{line_ends, line_some}

-- a stretch of privileges that are not set
pub lists_more : {label : ℕ → List ℕ} {ws marks : List ℕ} {n m : ℕ} {t : List ℕ} → Lists label ws marks n t → n ≤ m
    → ((p : ℕ) → n ≤ p → p < m → get_or marks p 0 ≡ 0) → Lists label ws marks m t
lists_more {label} {ws} {marks} {n} {m = zero} {t = t} h low off = let e : n ≡ 0 = omega arith in subst (λ (i : ℕ). Lists label ws marks i t) e h
lists_more {label} {ws} {marks} {n} {m = suc m} {t = t} h low off = elim (le_or_lt n m) [
  | inl g ↦ unset (lists_more h g (λ p from to. off p from (omega arith))) (off m g (omega arith))
  | inr g ↦ let e : n ≡ suc m = omega arith in subst (λ (i : ℕ). Lists label ws marks i t) e h
]

-- marks that agree below n
pub lists_marks : {label : ℕ → List ℕ} {ws marks others : List ℕ} {n : ℕ} {t : List ℕ} → ((p : ℕ) → p < n → get_or marks p 0 ≡ get_or others p 0)
    → Lists label ws marks n t → Lists label ws others n t
lists_marks same none = none
lists_marks {n = suc n} same (unset h e) = unset (lists_marks (λ p low. same p (omega arith)) h) (sym (same n (omega arith)) ∙ e)
lists_marks {label} {ws} {marks} {others} {n = suc n} same (set {line = line} h d one is) =
    let e = same n (omega arith) in
    set (lists_marks (λ p low. same p (omega arith)) h) (λ z. d (e ∙ z)) (subst (λ (m : ℕ). LineOf label ws n m line) e one) is

-- a front of a text, and the part behind it
pub take_slice : (a b : ℕ) (t : List ℕ) → a ≤ b → take b t ≡ take a t ++ slice a b t
take_slice a b t h = sym (take-append-drop a (take b t)) ∙ ap (λ (s : List ℕ). s ++ slice a b t) (take-take a b t h)

-- the bytes of parts, each with the byte that ends it
abbrev sizes : List (List ℕ) → ℕ
sizes [] = 0
sizes (part ∷ parts) = suc (length part + sizes parts)

spaced_size : (first : List ℕ) (parts : List (List ℕ)) → length (spaced first parts) ≡ sizes (first ∷ parts)
unfolding spaced
spaced_size first [] = omega (arith, length-append first (code "\n" ∷ []))
spaced_size first (next ∷ rest) = omega (arith, length-append first (code " " ∷ spaced next rest), spaced_size next rest)

sign_size : (mark : ℕ) → length (sign_of mark) ≡ 1
unfolding sign_of
sign_size mark = go (eqb mark 1) refl
  where
    go : (b : Bool) → eqb mark 1 ≡ b → length (sign_of mark) ≡ 1
    go true e = rw e refl
    go false e = rw e refl

parts_size : {label : ℕ → List ℕ} {e : ℕ} → Labelled label e → (n : Named) → Each (λ x. x < e) n → sizes (parts_of label n) ≤ 107
unfolding parts_of
parts_size l (texts x) h = omega (arith, l.short x h)
parts_size l (inserts x c) h = omega (arith, l.short x h.0, l.short c h.1)
parts_size l (deletes x c) h = omega (arith, l.short x h.0, l.short c h.1)
parts_size l (replaces x c d) h = omega (arith, l.short x h.0, l.short c h.1, l.short d h.2)

module _ {ws : List ℕ} {label : ℕ → List ℕ} (a : Accepted ws) (l : Labelled label (types ws)) where
  -- behind a line the next one starts, or the text ends
  pub start_next : {t : List ℕ} {from b p m : ℕ} → LineAt label ws t from b p m → b < length t → Starts t b
  start_next {t} {from} {b} h more =
      let r = line_ends a l h in
      let e : suc (b - 1) ≡ b = omega (arith, r.0) in
      subst (Starts t) e (behind_newline r.1 (omega arith))

  -- one line more of a text of which the front is a listing
  pub lists_line : {marks t : List ℕ} {from b p m : ℕ} → Lists label ws marks p (take from t) → get_or marks p 0 ≡ m → LineAt label ws t from b p m
      → Lists label ws marks (suc p) (take b t)
  lists_line {marks} {t} {from} {b} {p} {m} h e line = set h
      (λ z. ⊎_elim (λ (q : m ≡ 1). omega arith) (λ (q : m ≡ 2). omega arith) line.mark_set)
      (subst (λ (i : ℕ). LineOf label ws p i (slice from b t)) (sym e) line.line)
      (take_slice from b t (omega (arith, line_some a l line)))

  pub line_length : {p m : ℕ} {line : List ℕ} → LineOf label ws p m line → length line ≤ 109
  line_length {p} {m} {line} h =
      let n = name_of ws h.edit in
      let size = ap length h.is ∙ spaced_size (sign_of m) (parts_of label n) in
      omega (arith, size, sign_size m, parts_size l n (names_types a h.edit h.offered))

  pub lists_length : {marks : List ℕ} {n : ℕ} {t : List ℕ} → Lists label ws marks n t → length t ≤ 109 * n
  lists_length none = omega arith
  lists_length (unset h e) = omega (arith, lists_length h)
  lists_length (set {lines = lines} {line = line} h d one is) = omega (arith, lists_length h, line_length one, ap length is, length-append lines line)
