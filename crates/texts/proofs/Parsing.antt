-- The tree of a text, computed with its derivation. ANY and mixed content with names, which are never read to the end, are left out. Assumes nothing.
use Rattle.std.proofs.Common.{ℕ, zero, suc, refl, List, [], ◌∷◌, Option, Some, None, length, Result, Ok, Err}
use Prim.Native.Char.{code}
use lib.Seq.{slice}
use Rattle.table.proofs.Test.{is_equal}
use Rattle.grammar.specs.Bytes.{ascii, is_space, is_no_dash, Byte, stop, go_on, Literal, done, byte}
use Rattle.grammar.specs.Tree.{Mark, once, maybe, any, several, Particle, Particles, name, choice, sequence, last, more}
use Rattle.grammar.specs.Tree.{Content, is-empty, is_text, is_children, Declaration}
use Rattle.grammar.specs.Grammar.{Blanks, Space, Name, MarkAt, no_mark, question, asterisk, plus, Cp, cp_name, cp_group, Children, as_choice, as_sequence, Row, closed, separated}
use Rattle.grammar.specs.Grammar.{no_name, Pcdata, Spec, spec_empty, spec_text, spec_starred, spec_children, Element, element, Remark, ends, no_dash, one_dash}
use Rattle.grammar.specs.Grammar.{Items, no_more, a_space, a_comment, a_declaration, Text}
use Rattle.scan.specs.Steps.Readers.{NameRead}
use Rattle.scan.specs.declared.Stop.{Stop}
use Rattle.texts.proofs.Tests.{when, of, byte_is, name_at}

abbrev and_then : {A B : Type 0} → Option A → (A → Option B) → Option B
and_then None f = None
and_then (Some x) f = f x

-- the smallest pieces
module _ (t : List ℕ) where
  abbrev blanks_of : ℕ → (a : ℕ) → (b : ℕ) × Blanks t a b
  blanks_of zero a = (a, stop)
  blanks_of (suc n) a = when (of is_space t a) (λ o. (let x = blanks_of n (suc a) in (x.0, go_on o x.1))) (λ f. (a, stop))

  abbrev space_of : ℕ → (a : ℕ) → Option ((b : ℕ) × Space t a b)
  space_of n a = when (of is_space t a) (λ o. (let x = blanks_of n (suc a) in Some (x.0, record { start = o; rest = x.1 }))) (λ f. None)

  abbrev literal_of : (cs : List ℕ) (a : ℕ) → Option ((b : ℕ) × Literal t cs a b)
  literal_of [] a = Some (a, done)
  literal_of (c ∷ cs) a = when (byte_is t a c) (λ g. and_then (literal_of cs (suc a)) (λ x. Some (x.0, byte g x.1))) (λ f. None)

  abbrev name_by : (a : ℕ) (r : Result ℕ Stop) → NameRead t a r → Option ((b : ℕ) × Name t a b (slice a b t))
  name_by a (Ok e) x = Some (e, record { is = refl; start = x.start; rest = x.rest })
  name_by a (Err s) x = None

  abbrev name_of : (a : ℕ) → Option ((b : ℕ) × Name t a b (slice a b t))
  name_of a = let x = name_at t a in name_by a x.0 x.1

  abbrev mark_of : (a : ℕ) → (b : ℕ) × ((k : Mark) × MarkAt t a b k)
  mark_of a = when (byte_is t a (code "?")) (λ g. (suc a, (maybe, question g))) (λ f. when (byte_is t a (code "*")) (λ g. (suc a, (any, asterisk g)))
      (λ h. when (byte_is t a (code "+")) (λ g. (suc a, (several, plus g))) (λ i. (a, (once, no_mark)))))

-- particles, choices and sequences
abbrev Node : List ℕ → ℕ → Type 0
Node t a = Option ((b : ℕ) × ((p : Particle) × Cp t a b p))

abbrev Rows : List ℕ → ℕ → ℕ → Type 0
Rows t s a = Option ((b : ℕ) × ((ps : Particles) × Row t s a b ps))

abbrev Group : List ℕ → ℕ → Type 0
Group t a = Option ((b : ℕ) × ((p : Particle) × Children t a b p))

record Parsers (t : List ℕ) : Type 0 where
  particle : (a : ℕ) → Node t a
  row : (s a : ℕ) → Rows t s a

module _ (n : ℕ) (t : List ℕ) (ps : Parsers t) where
  abbrev more_of : (s a b : ℕ) (p : Particle) → Cp t a b p → (c : ℕ) → Blanks t b c → Byte t c s → Option ((e : ℕ) × ((qs : Particles) × Row t s a e (more p qs)))
  more_of s a b p x c w g = let v = blanks_of t n (suc c) in and_then (ps.row s v.0) (λ r. Some (r.0, (r.1.0, separated x w g v.1 r.1.1)))

  abbrev rest_of : (s a b : ℕ) (p : Particle) → Cp t a b p → Rows t s a
  rest_of s a b p x = let w = blanks_of t n b in
      when (byte_is t w.0 (code ")")) (λ g. Some (suc w.0, (last p, closed x w.1 g)))
      (λ f. when (byte_is t w.0 s) (λ g. and_then (more_of s a b p x w.0 w.1 g) (λ r. Some (r.0, (more p r.1.0, r.1.1)))) (λ h. None))

  abbrev row_of : (s a : ℕ) → Rows t s a
  row_of s a = and_then (ps.particle a) (λ x. rest_of s a x.0 x.1.0 x.1.1)

  abbrev choice_of : (a b c : ℕ) (p : Particle) → Byte t a (code "(") → Blanks t (suc a) b → Cp t b c p → (d : ℕ) → Blanks t c d → Byte t d (code "|") → Group t a
  choice_of a b c p o v x d w g = and_then (more_of (code "|") b c p x d w g) (λ r. (let m = mark_of t r.0 in Some (m.0, (choice a (more p r.1.0) m.1.0, as_choice o v r.1.1 m.1.1))))

  abbrev sequence_of : (a b c : ℕ) (p : Particle) → Byte t a (code "(") → Blanks t (suc a) b → Cp t b c p → Group t a
  sequence_of a b c p o v x = and_then (rest_of (code ",") b c p x) (λ r. (let m = mark_of t r.0 in Some (m.0, (sequence a r.1.0 m.1.0, as_sequence o v r.1.1 m.1.1))))

  abbrev group_of : (a : ℕ) → Byte t a (code "(") → Group t a
  group_of a o = let v = blanks_of t n (suc a) in and_then (ps.particle v.0) (λ x. (let w = blanks_of t n x.0 in
      when (byte_is t w.0 (code "|")) (λ g. choice_of a v.0 x.0 x.1.0 o v.1 x.1.1 w.0 w.1 g) (λ f. sequence_of a v.0 x.0 x.1.0 o v.1 x.1.1)))

  abbrev particle_of : (a : ℕ) → Node t a
  particle_of a = when (byte_is t a (code "(")) (λ o. and_then (group_of a o) (λ x. Some (x.0, (x.1.0, cp_group x.1.1))))
      (λ f. and_then (name_of t a) (λ x. (let m = mark_of t x.0 in Some (m.0, (name a (slice a x.0 t) m.1.0, cp_name x.1 m.1.1)))))

abbrev parsers : ℕ → (t : List ℕ) → Parsers t
parsers zero t = record { particle = λ a. None; row = λ s a. None }
parsers (suc n) t = record { particle = particle_of n t (parsers n t); row = row_of n t (parsers n t) }

-- contents, declarations, comments
module _ (n : ℕ) (t : List ℕ) where
  abbrev Contents : ℕ → Type 0
  Contents a = Option ((b : ℕ) × ((x : Content) × Spec t a b x))

  abbrev text_of : (a b : ℕ) → Pcdata t a b → Contents a
  text_of a b p = let w = blanks_of t n b in when (byte_is t w.0 (code ")"))
      (λ g. when (byte_is t (suc w.0) (code "*")) (λ h. Some (suc (suc w.0), (is_text, spec_starred p (no_name w.1 (byte g (byte h done)))))) (λ f. Some (suc w.0, (is_text, spec_text p w.1 g))))
      (λ f. None)

  abbrev opened_of : (a : ℕ) → Byte t a (code "(") → Contents a
  opened_of a o = let w = blanks_of t n (suc a) in when (byte_is t w.0 (code "#"))
      (λ g. and_then (literal_of t (ascii "#PCDATA") w.0) (λ x. text_of a x.0 (record { mid = w.0; open_it = o; blanks = w.1; word = x.1 })))
      (λ f. and_then (group_of n t (parsers n t) a o) (λ x. Some (x.0, (is_children x.1.0, spec_children x.1.1))))

  abbrev content_of : (a : ℕ) → Contents a
  content_of a = when (byte_is t a (code "(")) (λ o. opened_of a o) (λ f. and_then (literal_of t (ascii "EMPTY") a) (λ x. Some (x.0, (is-empty, spec_empty x.1))))

  abbrev declared : (c d : ℕ) → Content → Declaration
  declared c d x = record { place = c; named = slice c d t; content = x }

  abbrev element_of : (a : ℕ) → Option ((b : ℕ) × ((x : Declaration) × Element t a b x))
  element_of a = and_then (literal_of t (ascii "<!ELEMENT") a) (λ l. and_then (space_of t n l.0) (λ s. and_then (name_of t s.0) (λ x. and_then (space_of t n x.0) (λ v.
      and_then (content_of v.0) (λ y. (let w = blanks_of t n y.0 in when (byte_is t w.0 (code ">"))
      (λ g. Some (suc w.0, (declared s.0 x.0 y.1.0, element l.1 s.1 x.1 refl v.1 y.1.1 w.1 g))) (λ f. None)))))))

abbrev remark_of : (n : ℕ) (t : List ℕ) (a : ℕ) → Option ((b : ℕ) × Remark t a b)
remark_of zero t a = None
remark_of (suc n) t a = when (of is_no_dash t a) (λ o. and_then (remark_of n t (suc a)) (λ x. Some (x.0, no_dash o x.1)))
    (λ f. when (byte_is t a (code "-")) (λ g. when (of is_no_dash t (suc a)) (λ o. and_then (remark_of n t (suc (suc a))) (λ x. Some (x.0, one_dash g o x.1)))
    (λ h. and_then (literal_of t (ascii "-->") a) (λ x. Some (x.0, ends x.1)))) (λ g. None))

abbrev items_of : (n : ℕ) (t : List ℕ) (a : ℕ) → Option ((ds : List Declaration) × Items t a ds)
items_of zero t a = None
items_of (suc n) t a = when (of is_space t a) (λ o. and_then (items_of n t (suc a)) (λ x. Some (x.0, a_space o x.1)))
    (λ f. when (is_equal a (length t)) (λ e. Some ([], no_more e))
    (λ h. when (byte_is t (suc (suc a)) (code "-"))
    (λ g. and_then (literal_of t (ascii "<!--") a) (λ l. and_then (remark_of n t l.0) (λ r. and_then (items_of n t r.0) (λ x.
    Some (x.0, a_comment (record { mid = l.0; open_it = l.1; rest = r.1 }) x.1)))))
    (λ g. and_then (element_of n t a) (λ y. and_then (items_of n t y.0) (λ x. Some (y.1.0 ∷ x.0, a_declaration y.1.1 x.1))))))

-- a whole text
abbrev Tree : List ℕ → Type 0
Tree t = Option ((d : Declaration) × ((ds : List Declaration) × Text t d ds))

abbrev text_by : (t : List ℕ) (ds : List Declaration) → Items t 0 ds → Tree t
text_by t [] x = None
text_by t (d ∷ ds) x = Some (d, (ds, record { items = x }))

abbrev pub parse : (n : ℕ) (t : List ℕ) → Tree t
parse n t = and_then (items_of n t 0) (λ x. text_by t x.0 x.1)
