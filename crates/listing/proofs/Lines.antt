-- A line can be read in one way only: its parts have no blank and no newline, so blanks and the newline cut it where it was put together; labels
-- are apart and verbs differ, so the parts tell the edit, and the edit its privilege. Assumes nothing.
use Rattle.std.proofs.Common.{ℕ, zero, suc, ◌+◌, ◌-◌, ◌≤◌, ◌<◌, ◌≡◌, refl, sym, ap, subst, ◌∙◌, ◌≢◌, ◌⊎◌, inl, inr, Bool, true, false, ◌&&◌, List, [], ◌∷◌, ◌++◌, append_assoc, arith, ltb-true, eqb, ltb, length, get_or, take, drop, length-drop, take-append-drop, get_or-drop, get_or-take}
use Prim.Native.Char.{code}
use Rattle.std.proofs.Math.Seq.{slice, length-slice}
use Rattle.table.specs.Words.{types}
use Rattle.table.specs.Privilege.{Edit, Offers, privilege_of}
use Rattle.table.specs.Named.{Named, texts, inserts, deletes, replaces, name_of}
use Rattle.table.specs.Check.{Accepted}
use Rattle.table.proofs.Named.{Each, names_types, name_one}
use Rattle.grammar.specs.Bytes.{Byte}
use Rattle.grammar.proofs.Pieces.{true_false}
use Rattle.labels.specs.Steps.Booked.{Plain, Labelled}
use Rattle.listing.specs.Line.{sign_of, parts_of, spaced}
use Rattle.listing.specs.Listing.{LineOf}
use Rattle.listing.specs.Faults.{IsSet, LineAt}

-- parts without blanks and newlines
pub data AllPlain : List (List ℕ) → Type 0 where
  no_part : AllPlain []
  one_more : {part : List ℕ} {parts : List (List ℕ)} → Plain part → AllPlain parts → AllPlain (part ∷ parts)

pub plain_nil : Plain []
plain_nil = record { blank = λ k h. absurd (omega arith); newline = λ k h. absurd (omega arith) }

pub plain_cons : {b : ℕ} {part : List ℕ} → b ≢ code " " → b ≢ code "\n" → Plain part → Plain (b ∷ part)
plain_cons {b} {part} f g p = record { blank = blank; newline = newline }
  where
    blank : (k : ℕ) → k < length (b ∷ part) → get_or (b ∷ part) k 0 ≢ code " "
    blank zero h = f
    blank (suc k) h = p.blank k (omega arith)

    newline : (k : ℕ) → k < length (b ∷ part) → get_or (b ∷ part) k 0 ≢ code "\n"
    newline zero h = g
    newline (suc k) h = p.newline k (omega arith)

pub plain_tail : {b : ℕ} {part : List ℕ} → Plain (b ∷ part) → Plain part
plain_tail p = record { blank = λ k h. p.blank (suc k) (omega arith); newline = λ k h. p.newline (suc k) (omega arith) }

-- a word of bytes above the blank
abbrev pub above : List ℕ → Bool
above [] = true
above (b ∷ bs) = ltb (code " ") b && above bs

pub plain_above : (w : List ℕ) → above w ≡ true → Plain w
plain_above [] h = plain_nil
plain_above (b ∷ bs) h = go (plain_above bs) (ltb (code " ") b) refl h
  where
    go : (above bs ≡ true → Plain bs) → (x : Bool) → ltb (code " ") b ≡ x → (x && above bs) ≡ true → Plain (b ∷ bs)
    go f true e k = let l = ltb-true (code " ") b e in plain_cons (λ q. omega arith) (λ q. omega arith) (f k)
    go f false e k = absurd (true_false k refl)

pub sign_plain : (mark : ℕ) → Plain (sign_of mark)
unfolding sign_of
sign_plain mark = go (eqb mark 1) refl
  where
    go : (b : Bool) → eqb mark 1 ≡ b → Plain (sign_of mark)
    go true e = rw e (plain_above _ refl)
    go false e = rw e (plain_above _ refl)

pub sign_one : {m n : ℕ} → IsSet m → IsSet n → sign_of m ≡ sign_of n → m ≡ n
unfolding sign_of
sign_one (inl e) (inl f) q = e ∙ sym f
sign_one (inl e) (inr f) q = let r = rw (e, f) at q in absurd (omega (arith, ap (λ (l : List ℕ). get_or l 0 0) r))
sign_one (inr e) (inl f) q = let r = rw (e, f) at q in absurd (omega (arith, ap (λ (l : List ℕ). get_or l 0 0) r))
sign_one (inr e) (inr f) q = e ∙ sym f

-- a byte that ends a part
abbrev pub Cuts : ℕ → Type 0
Cuts c = (c ≡ code " ") ⊎ (c ≡ code "\n")

cuts_no_part : {b : ℕ} {part : List ℕ} → Plain (b ∷ part) → Cuts b → ⊥
cuts_no_part p (inl e) = p.blank 0 (omega arith) e
cuts_no_part p (inr e) = p.newline 0 (omega arith) e

pub cut_one : (p q : List ℕ) {c d : ℕ} {rest tail : List ℕ} → Plain p → Plain q → Cuts c → Cuts d → p ++ c ∷ rest ≡ q ++ d ∷ tail → (p ≡ q) × (c ≡ d) × (rest ≡ tail)
cut_one [] [] g h u v e = (refl, cc, cc)
cut_one [] (y ∷ q) {c} {d} {rest} {tail} g h u v e = let s : c ≡ y = cc in absurd (cuts_no_part h (subst Cuts s u))
cut_one (x ∷ p) [] {c} {d} {rest} {tail} g h u v e = let s : d ≡ x = cc in absurd (cuts_no_part g (subst Cuts s v))
cut_one (x ∷ p) (y ∷ q) {c} {d} {rest} {tail} g h u v e =
    let s : p ++ c ∷ rest ≡ q ++ d ∷ tail = cc in
    let r = cut_one p q (plain_tail g) (plain_tail h) u v s in
    let f : x ≡ y = cc in
    let k : p ≡ q = r.0 in
    (cc, r.1, r.2)

-- parts are cut in one way only
pub spaced_one : {first other : List ℕ} {ps qs : List (List ℕ)} {rest tail : List ℕ} → AllPlain (first ∷ ps) → AllPlain (other ∷ qs)
    → spaced first ps ++ rest ≡ spaced other qs ++ tail → (first ≡ other) × (ps ≡ qs) × (rest ≡ tail)
unfolding spaced
spaced_one {first} {other} {rest = rest} {tail = tail} (one_more g no_part) (one_more h no_part) e =
    let r = cut_one first other g h (inr refl) (inr refl) (sym (append_assoc first _ rest) ∙ e ∙ append_assoc other _ tail) in
    (r.0, refl, r.2)
spaced_one {first} {other} {rest = rest} {tail = tail} (one_more g no_part) (one_more h (one_more {part = next} {parts = qs} k more)) e =
    let r = cut_one first other g h (inr refl) (inl refl) (sym (append_assoc first _ rest) ∙ e ∙ append_assoc other _ tail) in
    absurd (omega (arith, r.1))
spaced_one {first} {other} {rest = rest} {tail = tail} (one_more g (one_more {part = next} {parts = ps} k more)) (one_more h no_part) e =
    let r = cut_one first other g h (inl refl) (inr refl) (sym (append_assoc first _ rest) ∙ e ∙ append_assoc other _ tail) in
    absurd (omega (arith, r.1))
spaced_one {first} {other} {rest = rest} {tail = tail} (one_more g (one_more {part = next} {parts = ps} k more)) (one_more h (one_more {part = then} {parts = qs} m others)) e =
    let r = cut_one first other g h (inl refl) (inl refl) (sym (append_assoc first _ rest) ∙ e ∙ append_assoc other _ tail) in
    let s = spaced_one (one_more k more) (one_more m others) r.2 in
    let f : next ≡ then = s.0 in
    let o : ps ≡ qs = s.1 in
    (r.0, cc, s.2)

-- a line: its one newline is its last byte
pub record Ended (line : List ℕ) : Type 0 where
  pub some : 0 < length line
  pub last : get_or line (length line - 1) 0 ≡ code "\n"
  pub before : (k : ℕ) → k < length line - 1 → get_or line k 0 ≢ code "\n"

ended_newline : Ended (code "\n" ∷ [])
ended_newline = record { some = omega arith; last = refl; before = λ k h. absurd (omega arith) }

ended_cons : {b : ℕ} {rest : List ℕ} → b ≢ code "\n" → Ended rest → Ended (b ∷ rest)
ended_cons {b} {rest} f r = let e : suc (length rest) - 1 ≡ suc (length rest - 1) = omega (arith, r.some) in record {
  some = omega arith;
  last = rw e r.last;
  before = go;
}
  where
    go : (k : ℕ) → k < suc (length rest) - 1 → get_or (b ∷ rest) k 0 ≢ code "\n"
    go zero h = f
    go (suc k) h = r.before k (omega arith)

ended_part : (part : List ℕ) {rest : List ℕ} → Plain part → Ended rest → Ended (part ++ rest)
ended_part [] p r = r
ended_part (b ∷ part) p r = ended_cons (p.newline 0 (omega arith)) (ended_part part (plain_tail p) r)

pub spaced_ended : {first : List ℕ} {ps : List (List ℕ)} → AllPlain (first ∷ ps) → Ended (spaced first ps)
unfolding spaced
spaced_ended {first} (one_more p no_part) = ended_part first p ended_newline
spaced_ended {first} (one_more p (one_more q more)) = ended_part first p (ended_cons (λ e. omega arith) (spaced_ended (one_more q more)))

-- a part of a text and what follows it
pub slice_drop : (a b : ℕ) (t : List ℕ) → a ≤ b → slice a b t ++ drop b t ≡ drop a t
slice_drop zero b t h = take-append-drop b t
slice_drop (suc a) zero t h = absurd (omega arith)
slice_drop (suc a) (suc b) [] h = refl
slice_drop (suc a) (suc b) (x ∷ t) h = slice_drop a b t (omega arith)

pub slice_byte : (a b : ℕ) (t : List ℕ) (k : ℕ) → a + k < b → get_or (slice a b t) k 0 ≡ get_or t (a + k) 0
slice_byte a b t k h = get_or-drop a (take b t) k 0 ∙ get_or-take b t (a + k) 0 h

-- the first letter of the verb
abbrev verb_in : List (List ℕ) → ℕ
verb_in parts = get_or (get_or parts 1 []) 0 0

module _ {label : ℕ → List ℕ} {e : ℕ} (l : Labelled label e) where
  pub parts_plain : (n : Named) → Each (λ x. x < e) n → AllPlain (parts_of label n)
  unfolding parts_of
  parts_plain (texts x) h = one_more (l.plain x h) (one_more (plain_above _ refl) no_part)
  parts_plain (inserts x c) h = one_more (l.plain x h.0) (one_more (plain_above _ refl) (one_more (l.plain c h.1) no_part))
  parts_plain (deletes x c) h = one_more (l.plain x h.0) (one_more (plain_above _ refl) (one_more (l.plain c h.1) no_part))
  parts_plain (replaces x c d) h =
      one_more (l.plain x h.0) (one_more (plain_above _ refl) (one_more (l.plain c h.1) (one_more (l.plain d h.2) no_part)))

  -- labels are apart, and the verbs differ
  parts_name : (m n : Named) → Each (λ x. x < e) m → Each (λ x. x < e) n → parts_of label m ≡ parts_of label n → m ≡ n
  unfolding parts_of
  parts_name (texts x) (texts y) g h q = let r = l.apart x y g h cc in cc
  parts_name (texts x) (inserts y d) g h q = absurd (omega (arith, ap verb_in q))
  parts_name (texts x) (deletes y d) g h q = absurd (omega (arith, ap verb_in q))
  parts_name (texts x) (replaces y d j) g h q = absurd (omega (arith, ap verb_in q))
  parts_name (inserts x c) (texts y) g h q = absurd (omega (arith, ap verb_in q))
  parts_name (inserts x c) (inserts y d) g h q = let r = l.apart x y g.0 h.0 cc in let s = l.apart c d g.1 h.1 cc in cc
  parts_name (inserts x c) (deletes y d) g h q = absurd (omega (arith, ap verb_in q))
  parts_name (inserts x c) (replaces y d j) g h q = absurd (omega (arith, ap verb_in q))
  parts_name (deletes x c) (texts y) g h q = absurd (omega (arith, ap verb_in q))
  parts_name (deletes x c) (inserts y d) g h q = absurd (omega (arith, ap verb_in q))
  parts_name (deletes x c) (deletes y d) g h q = let r = l.apart x y g.0 h.0 cc in let s = l.apart c d g.1 h.1 cc in cc
  parts_name (deletes x c) (replaces y d j) g h q = absurd (omega (arith, ap verb_in q))
  parts_name (replaces x c i) (texts y) g h q = absurd (omega (arith, ap verb_in q))
  parts_name (replaces x c i) (inserts y d) g h q = absurd (omega (arith, ap verb_in q))
  parts_name (replaces x c i) (deletes y d) g h q = absurd (omega (arith, ap verb_in q))
  parts_name (replaces x c i) (replaces y d j) g h q =
      let r = l.apart x y g.0 h.0 cc in let s = l.apart c d g.1 h.1 cc in let u = l.apart i j g.2 h.2 cc in cc

module _ {ws : List ℕ} {label : ℕ → List ℕ} (a : Accepted ws) (l : Labelled label (types ws)) where
  pub line_plain : (e : Edit) → Offers ws e → (mark : ℕ) → AllPlain (sign_of mark ∷ parts_of label (name_of ws e))
  line_plain e h mark = one_more (sign_plain mark) (parts_plain l (name_of ws e) (names_types a e h))

  pub parts_one : (e f : Edit) → Offers ws e → Offers ws f → parts_of label (name_of ws e) ≡ parts_of label (name_of ws f) → name_of ws e ≡ name_of ws f
  parts_one e f g h q = parts_name l (name_of ws e) (name_of ws f) (names_types a e g) (names_types a f h) q

  -- the parts tell the edit
  pub edit_told : (e f : Edit) → Offers ws e → Offers ws f → parts_of label (name_of ws e) ≡ parts_of label (name_of ws f) → e ≡ f
  edit_told e f g h q = name_one a e f g h (parts_one e f g h q)

  -- two lines at the front of one text are one line, and what follows them is one
  pub front_one : {p q m n : ℕ} {line other rest tail : List ℕ} → IsSet m → IsSet n → LineOf label ws p m line → LineOf label ws q n other
      → line ++ rest ≡ other ++ tail → (p ≡ q) × (m ≡ n) × (rest ≡ tail)
  front_one {p} {q} {m} {n} {line} {other} {rest} {tail} x y g h e =
      let both = ap (λ (s : List ℕ). s ++ rest) (sym g.is) ∙ e ∙ ap (λ (s : List ℕ). s ++ tail) h.is in
      let r = spaced_one (line_plain g.edit g.offered m) (line_plain h.edit h.offered n) both in
      let same = edit_told g.edit h.edit g.offered h.offered r.1 in
      (sym g.number ∙ ap (privilege_of ws) same ∙ h.number, sign_one x y r.0, r.2)

  pub line_ended : {p m : ℕ} {line : List ℕ} → LineOf label ws p m line → Ended line
  line_ended {p} {m} {line} h = subst Ended (sym h.is) (spaced_ended (line_plain h.edit h.offered m))

  pub line_some : {t : List ℕ} {from b p m : ℕ} → LineAt label ws t from b p m → from < b
  line_some {t} {from} {b} h = omega (arith, (line_ended h.line).some, length-slice from b t h.within)

  pub line_one : {t : List ℕ} {from b c p q m n : ℕ} → LineAt label ws t from b p m → LineAt label ws t from c q n → (b ≡ c) × (p ≡ q) × (m ≡ n)
  line_one {t} {from} {b} {c} g h =
      let e = slice_drop from b t (omega (arith, line_some g)) ∙ sym (slice_drop from c t (omega (arith, line_some h))) in
      let r = front_one g.mark_set h.mark_set g.line h.line e in
      (omega (arith, ap length r.2, length-drop b t, length-drop c t, g.within, h.within), r.0, r.1)

  pub line_ends : {t : List ℕ} {from b p m : ℕ} → LineAt label ws t from b p m
      → (from < b) × Byte t (b - 1) (code "\n") × ((k : ℕ) → from ≤ k → k < b - 1 → get_or t k 0 ≢ code "\n")
  line_ends {t} {from} {b} h =
      let some = line_some h in
      let ended = line_ended h.line in
      let size = length-slice from b t h.within in
      let at : from + (length (slice from b t) - 1) ≡ b - 1 = omega (arith, size) in (
        some,
        record {
          within = omega (arith, h.within);
          is = ap (λ (k : ℕ). get_or t k 0) (sym at) ∙ sym (slice_byte from b t (length (slice from b t) - 1) (omega arith)) ∙ ended.last;
        },
        λ k low high e. ended.before (k - from) (omega arith) (slice_byte from b t (k - from) (omega arith) ∙ ap (λ (i : ℕ). get_or t i 0) (omega arith) ∙ e),
      )
