-- The pieces of the grammar end behind their start, and the limits they pass lie there too. Assumes nothing.
use Rattle.std.proofs.Common.{ℕ, zero, suc, ◌≤◌, ◌<◌, inl, inr, List, arith}
use Rattle.grammar.specs.Tree.{Mark, Particle, Particles, Use, Content, Declaration}
use Rattle.grammar.specs.Grammar.{MarkAt, no_mark, question, asterisk, plus, Cp, cp_name, cp_group, Children, as_choice, as_sequence, Row, closed, separated}
use Rattle.grammar.specs.Grammar.{Names, no_name, one_name, Pcdata, Spec, spec_empty, spec_any, spec_text, spec_starred, spec_mixed, spec_children}
use Rattle.grammar.specs.Grammar.{Element, element, Remark, ends, no_dash, one_dash, Items, no_more, a_space, a_comment, a_declaration}
use Rattle.scan.specs.Steps.Claims.{limit, WideAt, WideIn, Inside, of_choice, of_sequence, LongIn, ContentLimit, DeclarationLimit, InSome}
use Rattle.scan.proofs.Agreeing.{span_le, literal_le}
use Rattle.scan.proofs.Pieces.{name_lt}

mark_le : {t : List ℕ} {a b : ℕ} {k : Mark} → MarkAt t a b k → a ≤ b
mark_le no_mark = omega arith
mark_le (question g) = omega arith
mark_le (asterisk g) = omega arith
mark_le (plus g) = omega arith

mutual
  pub cp_lt : {t : List ℕ} {a b : ℕ} {p : Particle} → Cp t a b p → a < b
  cp_lt (cp_name n m) = omega (arith, name_lt n, mark_le m)
  cp_lt (cp_group c) = children_lt c

  pub children_lt : {t : List ℕ} {a b : ℕ} {p : Particle} → Children t a b p → a < b
  children_lt (as_choice g s r m) = omega (arith, span_le s, row_lt r, mark_le m)
  children_lt (as_sequence g s r m) = omega (arith, span_le s, row_lt r, mark_le m)

  pub row_lt : {t : List ℕ} {s a b : ℕ} {ps : Particles} → Row t s a b ps → a < b
  row_lt (closed c s g) = omega (arith, cp_lt c, span_le s)
  row_lt (separated c s g u r) = omega (arith, cp_lt c, span_le s, span_le u, row_lt r)

pub inside_lt : {t : List ℕ} {a b : ℕ} {ps : Particles} → Inside t a b ps → a < b
inside_lt (of_choice r) = row_lt r
inside_lt (of_sequence r) = row_lt r

mutual
  pub cp_low : {t : List ℕ} {a b : ℕ} {p : Particle} → Cp t a b p → (depth j n : ℕ) → WideAt depth p j n → a ≤ j
  cp_low (cp_name x m) depth j n w = omega (arith, w.1)
  cp_low (cp_group c) depth j n w = children_low c depth j n w

  pub children_low : {t : List ℕ} {a b : ℕ} {p : Particle} → Children t a b p → (depth j n : ℕ) → WideAt depth p j n → a ≤ j
  children_low (as_choice g s r m) zero j n (inl w) = omega (arith, w.0)
  children_low (as_choice g s r m) zero j n (inr w) = omega (arith, span_le s, row_low r zero j n w)
  children_low (as_choice g s r m) (suc depth) j n w = omega (arith, span_le s, row_low r depth j n w)
  children_low (as_sequence g s r m) zero j n (inl w) = omega (arith, w.0)
  children_low (as_sequence g s r m) zero j n (inr w) = omega (arith, span_le s, row_low r zero j n w)
  children_low (as_sequence g s r m) (suc depth) j n w = omega (arith, span_le s, row_low r depth j n w)

  pub row_low : {t : List ℕ} {s a b : ℕ} {ps : Particles} → Row t s a b ps → (depth j n : ℕ) → WideIn depth ps j n → a ≤ j
  row_low (closed c s g) depth j n w = cp_low c depth j n w
  row_low (separated c s g u r) depth j n (inl w) = cp_low c depth j n w
  row_low (separated c s g u r) depth j n (inr w) = omega (arith, cp_lt c, span_le s, span_le u, row_low r depth j n w)

pub inside_low : {t : List ℕ} {a b : ℕ} {ps : Particles} → Inside t a b ps → (depth j n : ℕ) → WideIn depth ps j n → a ≤ j
inside_low (of_choice r) depth j n w = row_low r depth j n w
inside_low (of_sequence r) depth j n w = row_low r depth j n w

pub names_le : {t : List ℕ} {a b : ℕ} {us : List Use} → Names t a b us → a ≤ b
names_le (no_name s l) = omega (arith, span_le s, literal_le l)
names_le (one_name s g r n e m) = omega (arith, span_le s, span_le r, name_lt n, names_le m)

pub names_low : {t : List ℕ} {a b : ℕ} {us : List Use} (j n : ℕ) → Names t a b us → LongIn us j n → a ≤ j
names_low j n (no_name s l) w = absurd w
names_low j n (one_name s g r x e m) (inl w) = omega (arith, span_le s, span_le r, w.1)
names_low j n (one_name s g r x e m) (inr w) = omega (arith, span_le s, span_le r, name_lt x, names_low j n m w)

pub pcdata_lt : {t : List ℕ} {a c : ℕ} → Pcdata t a c → a < c
pcdata_lt p = omega (arith, span_le p.blanks, literal_le p.word)

pub spec_le : {t : List ℕ} {a b : ℕ} {x : Content} → Spec t a b x → a ≤ b
spec_le (spec_empty l) = literal_le l
spec_le (spec_any l) = literal_le l
spec_le (spec_text p s g) = omega (arith, pcdata_lt p, span_le s)
spec_le (spec_starred p n) = omega (arith, pcdata_lt p, names_le n)
spec_le (spec_mixed p s g n) = omega (arith, pcdata_lt p, names_le n)
spec_le (spec_children c) = omega (arith, children_lt c)

pub spec_low : {t : List ℕ} {a b : ℕ} {x : Content} (j n : ℕ) → Spec t a b x → ContentLimit x j n → a ≤ j
spec_low j n (spec_empty l) w = absurd w
spec_low j n (spec_any l) w = omega (arith, w.0)
spec_low j n (spec_text p s g) w = absurd w
spec_low j n (spec_starred p m) w = absurd w
spec_low j n (spec_mixed p s g m) (inl w) = omega (arith, pcdata_lt p, span_le s, w.0)
spec_low j n (spec_mixed p s g m) (inr w) = omega (arith, pcdata_lt p, names_low j n m w)
spec_low j n (spec_children c) w = children_low c 16 j n w

pub element_le : {t : List ℕ} {a b : ℕ} {d : Declaration} → Element t a b d → a ≤ b
element_le (element l s n p u x v g) = omega (arith, literal_le l, span_le s.rest, name_lt n, span_le u.rest, spec_le x, span_le v)

element_low : {t : List ℕ} {a b : ℕ} {d : Declaration} (j n : ℕ) → Element t a b d → DeclarationLimit d j n → a ≤ j
element_low j k (element l s n p u x v g) (inl w) = omega (arith, literal_le l, span_le s.rest, w.1)
element_low j k (element l s n p u x v g) (inr w) = omega (arith, literal_le l, span_le s.rest, name_lt n, span_le u.rest, spec_low j k x w)

pub remark_le : {t : List ℕ} {a b : ℕ} → Remark t a b → a ≤ b
remark_le (ends l) = literal_le l
remark_le (no_dash o r) = omega (arith, remark_le r)
remark_le (one_dash g o r) = omega (arith, remark_le r)

pub items_low : {t : List ℕ} {a : ℕ} {ds : List Declaration} (j n : ℕ) → Items t a ds → InSome (limit j n) ds → a ≤ j
items_low j n (no_more e) w = absurd w
items_low j n (a_space o r) w = omega (arith, items_low j n r w)
items_low j n (a_comment c r) w = omega (arith, literal_le c.open_it, remark_le c.rest, items_low j n r w)
items_low j n (a_declaration d r) (inl w) = element_low j n d w
items_low j n (a_declaration d r) (inr w) = omega (arith, element_le d, items_low j n r w)
