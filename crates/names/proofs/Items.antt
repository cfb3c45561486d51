-- What stands at a place of a text of the grammar, told by a byte or two. Assumes nothing.
use Rattle.std.proofs.Common.{ℕ, suc, ◌+◌, ◌≤◌, ◌<◌, ◌≡◌, refl, ◌∙◌, List, arith, length, Option, Some, None}
use Prim.Native.Char.{code}
use Rattle.grammar.specs.Bytes.{is_space, Byte, Of, go_on, byte}
use Rattle.grammar.specs.Tree.{Declaration}
use Rattle.grammar.specs.Grammar.{Element, element, Remark, ends, no_dash, one_dash, Items, no_more, a_space, a_comment, a_declaration}
use Rattle.grammar.proofs.Pieces.{clash, off, apart, space_no_name, span_unique, literal_start, after_blanks}
use Rattle.grammar.proofs.OneTree.{name_no_space, spec_no_space, comment_third, element_start, element_third}
use Rattle.scan.specs.Steps.Readers.{BlanksRead}
use Rattle.scan.proofs.Agreeing.{span_le}
use Rattle.names.specs.declared.walk.Declared.{Declared}
use Rattle.names.specs.Steps.Walk.{DeclaredAt, NextOf, none_left, Moved, NextRead}
use Rattle.names.specs.Steps.Pieces.{NameEnd, RemarkRead, ElementRead}
use Rattle.names.proofs.Spans.{literal_end, name_span, ends_there}

-- comments
pub remark_over : {t : List ℕ} {a b : ℕ} → length t ≤ a → Remark t a b → ⊥
remark_over l (ends w) = omega (arith, (literal_start w).within)
remark_over l (no_dash o r) = omega (arith, o.within)
remark_over l (one_dash g o r) = omega (arith, g.within)

pub remark_ends : {t : List ℕ} {a b : ℕ} → Byte t a (code "-") → Byte t (suc a) (code "-") → Remark t a b → b ≡ a + 3
remark_ends g h (ends w) = literal_end w
remark_ends g h (no_dash o r) = absurd (off g refl o)
remark_ends g h (one_dash i o r) = absurd (off h refl o)

pub remark_two : {t : List ℕ} {a b : ℕ} → Byte t a (code "-") → ¬ Byte t (suc a) (code "-") → Remark t a b → Remark t (suc (suc a)) b
remark_two g h (ends (byte i (byte j w))) = absurd (h j)
remark_two g h (no_dash o r) = absurd (off g refl o)
remark_two g h (one_dash i o r) = r

pub remark_one : {t : List ℕ} {a b : ℕ} → ¬ Byte t a (code "-") → Remark t a b → Remark t (suc a) b
remark_one h (ends w) = absurd (h (literal_start w))
remark_one h (no_dash o r) = r
remark_one h (one_dash i o r) = absurd (h i)

-- items
pub items_over : {t : List ℕ} {a : ℕ} {ds : List Declaration} → length t ≤ a → Items t a ds → NextOf t ds None
items_over l (no_more e) = none_left
items_over l (a_space o r) = absurd (omega (arith, o.within))
items_over l (a_comment c r) = absurd (omega (arith, (literal_start c.open_it).within))
items_over l (a_declaration d r) = absurd (omega (arith, (element_start d).within))

pub items_space : {t : List ℕ} {a : ℕ} {ds : List Declaration} → Of is_space t a → Items t a ds → Items t (suc a) ds
items_space o (no_more e) = absurd (omega (arith, o.within))
items_space o (a_space p r) = r
items_space o (a_comment c r) = absurd (off (literal_start c.open_it) refl o)
items_space o (a_declaration d r) = absurd (off (element_start d) refl o)

pub items_comment : {t : List ℕ} {a e : ℕ} {ds : List Declaration} → ¬ Of is_space t a → Byte t (a + 2) (code "-") → RemarkRead t (a + 4) e
    → Items t a ds → Items t e ds
items_comment f g x (no_more e) = absurd (omega (arith, g.within))
items_comment f g x (a_space o r) = absurd (f o)
items_comment {t} {a} {e} f g x (a_comment {b = b} c r) =
    let q : c.mid ≡ a + 4 = literal_end c.open_it in
    let z : b ≡ e = x.of b (rw q at c.rest) in
    rw z at r
items_comment {t} {a} f g x (a_declaration d r) =
    let q : a + 2 ≡ suc (suc a) = omega arith in
    absurd (let y = clash (rw q at g) (element_third d) in omega arith)

items_declared : {t : List ℕ} {a : ℕ} {ds : List Declaration} (r : Option Declared) → a < length t → ¬ Of is_space t a → ¬ Byte t (a + 2) (code "-")
    → ElementRead t a r → Items t a ds → NextOf t ds r
items_declared n l f g x (no_more e) = absurd (omega arith)
items_declared n l f g x (a_space o r) = absurd (f o)
items_declared {t} {a} n l f g x (a_comment c r) =
    let q : suc (suc a) ≡ a + 2 = omega arith in
    absurd (g (rw q at (comment_third c)))
items_declared n l f g x (a_declaration {b = b} {d = d} {ds = ds} y r) = x.of b d ds y r

-- a declaration
pub element_long : {t : List ℕ} {a b : ℕ} {d : Declaration} → Element t a b d → a + 9 < length t
element_long (element l s n p u x v k) = omega (arith, literal_end l, s.start.within)

pub element_at : {t : List ℕ} {a b name e body : ℕ} {d : Declaration} {ds : List Declaration} → BlanksRead t (a + 9) name → NameEnd t name e
    → BlanksRead t e body → Element t a b d → Items t b ds → DeclaredAt t d ds name body
element_at {t} {a} {name = name} {e = e} {body = body} x y z (element {b = b} {c = c} {d = m} {e = f} {f = h} {g = g} l s n p u w v k) r =
    let i : b ≡ a + 9 = literal_end l in
    let j : c ≡ name = span_unique (rw i at (go_on s.start s.rest)) x.blanks (name_no_space n) x.over in
    let over = apart space_no_name u.start in
    let o : m ≡ e = ends_there y (rw j at (name_span n)) over in
    let q : f ≡ body = span_unique (rw o at (go_on u.start u.rest)) z.blanks (spec_no_space w) z.over in
    record {
      place = p ∙ j;
      named = record { end = m; is_name = rw j at n; over = over };
      before = omega (arith, span_le n.rest, span_le u.rest);
      end = h;
      spec = rw q at w;
      after = after_blanks v k refl refl;
      close = g;
      blanks = v;
      ends = k;
      rest = r;
    }

moved_on : (t : List ℕ) {a b : ℕ} (r : Option Declared) → a ≤ b → Moved t b r → Moved t a r
moved_on t None l m = tt
moved_on t (Some p) l m = (omega (arith, m.0), m.1)

-- the item found from a on is a declaration
pub next_declared : {t : List ℕ} {a b : ℕ} {r : Option Declared} → a ≤ b → ((ds : List Declaration) → Items t a ds → Items t b ds) → b < length t
    → ¬ Of is_space t b → ¬ Byte t (b + 2) (code "-") → ElementRead t b r → NextRead t a r
next_declared {t} {r = r} l h w f g x = record { of = λ ds y. items_declared r w f g x (h ds y); moved = moved_on t r l x.moved }
