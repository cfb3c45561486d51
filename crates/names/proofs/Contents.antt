-- No '>' stands in a content; from where on the names in it are those that it uses. Assumes nothing.
use Rattle.std.proofs.Common.{ℕ, suc, ◌≤◌, ◌<◌, ◌≡◌, refl, ◌≢◌, ◌⊎◌, inl, inr, Bool, false, List, [], ◌∷◌, append-nil, arith, length}
use Prim.Native.Char.{code}
use Rattle.grammar.specs.Bytes.{ascii, is_name_byte, Byte, Of, Span, stop, go_on, Literal, byte}
use Rattle.grammar.specs.Tree.{Use, Content, Declaration, Nth, uses_in, uses_of}
use Rattle.grammar.specs.Grammar.{Pcdata, as_choice, as_sequence}
use Rattle.grammar.specs.Grammar.{Spec, spec_empty, spec_any, spec_text, spec_starred, spec_mixed, spec_children, Items}
use Rattle.grammar.proofs.Pieces.{clash, off, span_unique, literal_start, After, after_blanks}
use Rattle.grammar.proofs.Unique.{row_no_space}
use Rattle.grammar.proofs.OneTree.{names_after, row_no_number_sign}
use Rattle.scan.specs.Steps.Readers.{BlanksRead}
use Rattle.grammar.proofs.Stopping.{le_or_lt}
use Rattle.scan.proofs.Agreeing.{span_le}
use Rattle.names.specs.Steps.Walk.{DeclaredAt}
use Rattle.names.specs.Steps.Pieces.{NameEnd}
use Rattle.names.specs.Steps.Uses.{Flat, at_end, no_use, a_use}
use Rattle.names.proofs.Spans.{literal_span, name_span, ends_there}
use Rattle.names.proofs.Flats.{flat_byte, flat_blanks, children_flat, names_flat, flat_within}
use Rattle.names.proofs.Nths.{nth_below}

-- the words of a content are bytes of a name
empty_span : {t : List ℕ} {a b : ℕ} → Literal t (ascii "EMPTY") a b → Span is_name_byte t a b
empty_span = literal_span (refl, (refl, (refl, (refl, (refl, tt)))))

any_span : {t : List ℕ} {a b : ℕ} → Literal t (ascii "ANY") a b → Span is_name_byte t a b
any_span = literal_span (refl, (refl, (refl, tt)))

pcdata_span : {t : List ℕ} {a b : ℕ} → Literal t (ascii "PCDATA") a b → Span is_name_byte t a b
pcdata_span = literal_span (refl, (refl, (refl, (refl, (refl, (refl, tt))))))

-- no '>' stands from a to b
pub record Clear (t : List ℕ) (a b : ℕ) : Type 0 where
  pub le : a ≤ b
  pub none : (j : ℕ) → a ≤ j → j < b → ¬ Byte t j (code ">")

pub clear_start : {t : List ℕ} {a : ℕ} → Clear t a a
clear_start = record { le = omega arith; none = λ j l m. absurd (omega arith) }

clear_join : {t : List ℕ} {a b c : ℕ} → Clear t a b → Clear t b c → Clear t a c
clear_join {b = b} x y = record {
  le = omega (arith, x.le, y.le);
  none = λ j l m. elim (le_or_lt b j) [ inl h ↦ y.none j h m | inr h ↦ x.none j l h ];
}

clear_one : {t : List ℕ} {a : ℕ} → ¬ Byte t a (code ">") → Clear t a (suc a)
clear_one {t} {a} f = record { le = omega arith; none = λ j l m g. (let e : j ≡ a = omega arith in f (rw e at g)) }

clear_byte : {t : List ℕ} {a x : ℕ} → Byte t a x → x ≢ code ">" → Clear t a (suc a)
clear_byte g n = clear_one (λ h. n (clash g h))

clear_span : {class : ℕ → Bool} {t : List ℕ} {a b : ℕ} → class (code ">") ≡ false → Span class t a b → Clear t a b
clear_span e stop = clear_start
clear_span e (go_on o s) = clear_join (clear_one (λ h. off h e o)) (clear_span e s)

flat_clear : {t : List ℕ} {a b : ℕ} {us : List Use} → Flat t a b us → Clear t a b
flat_clear at_end = clear_start
flat_clear (no_use f g r) = clear_join (clear_one g) (flat_clear r)
flat_clear (a_use e n f r) = clear_join (clear_span refl (name_span n)) (flat_clear r)

pcdata_clear : {t : List ℕ} {a b : ℕ} → Pcdata t a b → Clear t a b
pcdata_clear {t} p = clear_join (clear_byte p.open_it (λ e. omega arith)) (clear_join (clear_span refl p.blanks) (word p.word))
  where
    word : {a b : ℕ} → Literal t (ascii "#PCDATA") a b → Clear t a b
    word (byte g l) = clear_join (clear_byte g (λ e. omega arith)) (clear_span refl (pcdata_span l))

spec_clear : {t : List ℕ} {a b : ℕ} {x : Content} → Spec t a b x → Clear t a b
spec_clear (spec_empty l) = clear_span refl (empty_span l)
spec_clear (spec_any l) = clear_span refl (any_span l)
spec_clear (spec_text p s g) = clear_join (pcdata_clear p) (clear_join (clear_span refl s) (clear_byte g (λ e. omega arith)))
spec_clear (spec_starred p n) = clear_join (pcdata_clear p) (flat_clear (names_flat n at_end))
spec_clear (spec_mixed p s g n) = clear_join (pcdata_clear p) (flat_clear (names_flat n at_end))
spec_clear (spec_children c) = flat_clear (children_flat c at_end)

-- the first '>' from a declaration's content on ends it
declared_clear : {t : List ℕ} {name body : ℕ} {d : Declaration} {ds : List Declaration} (x : DeclaredAt t d ds name body) → Clear t body x.close
declared_clear x = clear_join (spec_clear x.spec) (clear_span refl x.blanks)

pub declared_le : {t : List ℕ} {name body : ℕ} {d : Declaration} {ds : List Declaration} (x : DeclaredAt t d ds name body) → body ≤ x.close
declared_le x = (declared_clear x).le

pub spec_le : {t : List ℕ} {a b : ℕ} {x : Content} → Spec t a b x → a ≤ b
spec_le s = (spec_clear s).le

pub declared_ends : {t : List ℕ} {name body i : ℕ} {d : Declaration} {ds : List Declaration} → Clear t body i → Byte t i (code ">")
    → DeclaredAt t d ds name body → Items t (suc i) ds
declared_ends {t} {body = body} {i = i} {ds = ds} f g x = go (le_or_lt x.close i) (le_or_lt i x.close)
  where
    go : (x.close ≤ i) ⊎ (i < x.close) → (i ≤ x.close) ⊎ (x.close < i) → Items t (suc i) ds
    go h (inr k) = absurd (f.none x.close (declared_le x) k x.ends)
    go (inr h) (inl k) = absurd ((declared_clear x).none i f.le h g)
    go (inl h) (inl k) = let e : x.close ≡ i = omega arith in rw e at x.rest

pub never_ends : {t : List ℕ} {name body i : ℕ} {d : Declaration} {ds : List Declaration} → Clear t body i → length t ≤ i
    → DeclaredAt t d ds name body → ⊥
never_ends f l x = f.none x.close (declared_le x) (omega (arith, x.ends.within)) x.ends

-- where the names that a content uses begin: behind EMPTY, ANY and #PCDATA
word_at : {t : List ℕ} {a b m : ℕ} → BlanksRead t (suc a) m → (p : Pcdata t a b) → p.mid ≡ m
word_at w p = span_unique p.blanks w.blanks (off (literal_start p.word) refl) w.over

number_sign : {t : List ℕ} {a b m : ℕ} → BlanksRead t (suc a) m → Pcdata t a b → Byte t m (code "#")
number_sign w p = rw (word_at w p) at (literal_start p.word)

pcdata_ends : {t : List ℕ} {a b m e : ℕ} → BlanksRead t (suc a) m → NameEnd t (suc m) e → Pcdata t a b → ¬ Of is_name_byte t b → b ≡ e
pcdata_ends {t} {b = b} {m = m} {e = e} w y p f = word (rw (word_at w p) at p.word)
  where
    word : Literal t (ascii "#PCDATA") m b → b ≡ e
    word (byte g l) = ends_there y (pcdata_span l) f

module _ {t : List ℕ} {a c : ℕ} where
  unopened : {b e : ℕ} {x : Content} → ¬ Byte t a (code "(") → NameEnd t a e → Spec t a b x → After t b → Flat t b c [] → Flat t e c (uses_of x)
  unopened f y (spec_empty l) h r = let z = ends_there y (empty_span l) h.no_name in rw z at r
  unopened f y (spec_any l) h r = let z = ends_there y (any_span l) h.no_name in rw z at r
  unopened f y (spec_text p s g) h r = absurd (f p.open_it)
  unopened f y (spec_starred p n) h r = absurd (f p.open_it)
  unopened f y (spec_mixed p s g n) h r = absurd (f p.open_it)
  unopened f y (spec_children (as_choice g s r m)) h x = absurd (f g)
  unopened f y (spec_children (as_sequence g s r m)) h x = absurd (f g)

  opened_text : {b m e : ℕ} {x : Content} → Byte t a (code "(") → BlanksRead t (suc a) m → Byte t m (code "#") → NameEnd t (suc m) e
      → Spec t a b x → Flat t b c [] → Flat t e c (uses_of x)
  opened_text o w g y (spec_empty l) r = absurd (let z = clash o (literal_start l) in omega arith)
  opened_text o w g y (spec_any l) r = absurd (let z = clash o (literal_start l) in omega arith)
  opened_text o w g y (spec_text p s k) r =
      let z = pcdata_ends w y p (after_blanks s k refl refl).no_name in
      flat_blanks (rw z at s) (flat_byte k refl (λ i. omega arith) r)
  opened_text o w g y (spec_starred p n) r = let z = pcdata_ends w y p (names_after n).no_name in rw z at (names_flat n r)
  opened_text o w g y (spec_mixed {u = u} {us = us} p s k n) r =
      let z = pcdata_ends w y p (names_after n).no_name in
      rw (append-nil (u ∷ us), z) at (names_flat n r)
  opened_text o w g y (spec_children (as_choice k s v n)) r =
      let z = span_unique w.blanks s w.over (row_no_space v) in
      absurd (row_no_number_sign v (rw z at g))
  opened_text o w g y (spec_children (as_sequence k s v n)) r =
      let z = span_unique w.blanks s w.over (row_no_space v) in
      absurd (row_no_number_sign v (rw z at g))

  opened_group : {b m : ℕ} {x : Content} → Byte t a (code "(") → BlanksRead t (suc a) m → ¬ Byte t m (code "#") → Spec t a b x → Flat t b c []
      → Flat t a c (uses_of x)
  opened_group o w g (spec_empty l) r = absurd (let z = clash o (literal_start l) in omega arith)
  opened_group o w g (spec_any l) r = absurd (let z = clash o (literal_start l) in omega arith)
  opened_group o w g (spec_text p s k) r = absurd (g (number_sign w p))
  opened_group o w g (spec_starred p n) r = absurd (g (number_sign w p))
  opened_group o w g (spec_mixed p s k n) r = absurd (g (number_sign w p))
  opened_group o w g (spec_children {p = p} k) r = rw (append-nil (uses_in p)) at (children_flat k r)

module _ {t : List ℕ} {name body : ℕ} {d : Declaration} {ds : List Declaration} (x : DeclaredAt t d ds name body) where
  close_flat : Flat t x.end x.close []
  close_flat = flat_blanks x.blanks at_end

  pub declared_unopened : {e : ℕ} → ¬ Byte t body (code "(") → NameEnd t body e → Flat t e x.close (uses_of d.content)
  declared_unopened f y = unopened f y x.spec x.after close_flat

  pub declared_text : {m e : ℕ} → Byte t body (code "(") → BlanksRead t (suc body) m → Byte t m (code "#") → NameEnd t (suc m) e
      → Flat t e x.close (uses_of d.content)
  declared_text o w g y = opened_text o w g y x.spec close_flat

  pub declared_group : {m : ℕ} → Byte t body (code "(") → BlanksRead t (suc body) m → ¬ Byte t m (code "#")
      → Flat t body x.close (uses_of d.content)
  declared_group o w g = opened_group o w g x.spec close_flat

-- the names that a content uses stand in it
pub used_from : {t : List ℕ} {a b : ℕ} {x : Content} → Spec t a b x → (j : ℕ) (u : Use) → Nth (uses_of x) j u → (a ≤ u.place) × (u.place < b)
used_from (spec_empty l) j u n = absurd (omega (arith, nth_below n))
used_from (spec_any l) j u n = absurd (omega (arith, nth_below n))
used_from (spec_text p s g) j u n = absurd (omega (arith, nth_below n))
used_from (spec_starred p m) j u n = absurd (omega (arith, nth_below n))
used_from (spec_mixed {u = v} {us = vs} p s g m) j u n =
    let h = flat_within (rw (append-nil (v ∷ vs)) at (names_flat m at_end)) n in
    (omega (arith, h.0, (pcdata_clear p).le), h.1)
used_from (spec_children {p = p} c) j u n = flat_within (rw (append-nil (uses_in p)) at (children_flat c at_end)) n

pub use_within : {t : List ℕ} {name body : ℕ} {d : Declaration} {ds : List Declaration} (x : DeclaredAt t d ds name body) (j : ℕ) (u : Use)
    → Nth (uses_of d.content) j u → (body ≤ u.place) × (u.place < x.close)
use_within x j u n = let h = used_from x.spec j u n in (h.0, omega (arith, h.1, span_le x.blanks))
