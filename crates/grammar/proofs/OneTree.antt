-- A text has at most one tree. Assumes nothing.
use Prim.Native.Nat.{ℕ, suc}
use mathlib.Core.Path.{◌≡◌, refl, sym, ◌∙◌, ap}
use mathlib.Core.Logic.{◌≢◌}
use mathlib.Core.Bool.{Bool}
use mathlib.Core.List.{List, [], ◌∷◌}
use native.Mathlib.Omega.{arith}
use lib.ListN.{length}
use Rattle.grammar.specs.Bytes.{is_space, Byte, Of, Literal, byte}
use Rattle.grammar.specs.Tree.{Particle, Particles, Use, Content, is-empty, is_text, is_any, is_mixed, is_children, Declaration}
use Rattle.grammar.specs.Grammar.{Blanks, Space, Name, Cp, cp_name, cp_group, Children, as_choice, as_sequence, Row, closed, separated, Names, no_name, one_name, Pcdata, Spec, spec_empty, spec_any, spec_text, spec_starred, spec_mixed, spec_children, Element, element, Remark, ends, no_dash, one_dash, Comment, Items, no_more, a_space, a_comment, a_declaration, Text}
use Rattle.grammar.proofs.Pieces.{clash, off, apart, space_no_start, span_unique, literal_unique, literal_start, After, name_unique, after_blanks, point}
use Rattle.grammar.proofs.Unique.{row_no_space, children_unique, settled}

use_path : {u v : Use} → u.place ≡ v.place → u.bytes ≡ v.bytes → u ≡ v
use_path p q = λ i. record { place = p i; bytes = q i }

declaration_path : {d e : Declaration} → d.place ≡ e.place → d.named ≡ e.named → d.content ≡ e.content → d ≡ e
declaration_path p q r = λ i. record { place = p i; named = q i; content = r i }

cons_path : {A : Type 0} {a b : A} {l m : List A} → a ≡ b → l ≡ m → a ∷ l ≡ b ∷ m
cons_path p q = λ i. p i ∷ q i

pub name_no_space : {t n : List ℕ} {a b : ℕ} → Name t a b n → ¬ Of is_space t a
name_no_space n o = apart space_no_start o n.start

name_same : {t n m : List ℕ} {a b c : ℕ} → Name t a b n → Name t a c m → b ≡ c → n ≡ m
name_same x y e = rw (x.is, y.is, e)

pub names_after : {t : List ℕ} {a b : ℕ} {us : List Use} → Names t a b us → After t a
names_after (no_name s l) = after_blanks s (literal_start l) refl refl
names_after (one_name s g r n e m) = after_blanks s g refl refl

names_unique : {t : List ℕ} {a b c : ℕ} {us vs : List Use} → Names t a b us → Names t a c vs → (b ≡ c) × (us ≡ vs)
names_unique (no_name s l) (no_name r m) =
    let z = point s r (literal_start l) (literal_start m) refl refl in
    (literal_unique l (rw (sym z) at m), refl)
names_unique (no_name s l) (one_name r h w n e m) =
    let z = point s r (literal_start l) h refl refl in
    absurd (let y = clash (literal_start l) (rw (sym z) at h) in omega arith)
names_unique (one_name r h w n e m) (no_name s l) =
    let z = point r s h (literal_start l) refl refl in
    absurd (let y = clash h (rw (sym z) at (literal_start l)) in omega arith)
names_unique (one_name s g r n e m) (one_name u h w o d q) =
    let z = point s u g h refl refl in
    let y = span_unique r (rw (sym z) at w) (name_no_space n) (name_no_space o) in
    let p = rw (sym y) at o in
    let x = name_unique n p (names_after m).no_name (names_after q).no_name in
    let i = names_unique m (rw (sym x) at q) in
    (i.0, cons_path (use_path (e ∙ y ∙ sym d) (name_same n p x)) i.1)

-- what follows `(#PCDATA`
data PcdataRest (t : List ℕ) (a b : ℕ) (x : Content) : Type 0 where
  plain : {c : ℕ} → Blanks t a c → Byte t c 41 → b ≡ suc c → x ≡ is_text → PcdataRest t a b x
  starred : Names t a b [] → x ≡ is_text → PcdataRest t a b x
  mixed : {c : ℕ} {u : Use} {us : List Use} → Blanks t a c → Byte t c 124 → Names t a b (u ∷ us) → x ≡ is_mixed c (u ∷ us) → PcdataRest t a b x

abbrev Same : ℕ → ℕ → Content → Content → Type 0
Same b c x y = (b ≡ c) × (x ≡ y)

-- `)` and `)*` are told apart by what follows
plain_starred : {t : List ℕ} {a c e : ℕ} → Blanks t a c → Byte t c 41 → Names t a e [] → After t (suc c) → ⊥
plain_starred s g (no_name r (byte h (byte i l))) f =
    let z = point s r g h refl refl in
    f.unmarked (record { within = (rw (sym z) at i).within; is = rw (rw (sym z) at i).is })

-- `|` is neither
bar_first : {t : List ℕ} {a b c : ℕ} → Blanks t a c → Byte t c 124 → Names t a b [] → ⊥
bar_first s g (no_name r l) =
    let z = point s r g (literal_start l) refl refl in
    let y = clash g (rw (sym z) at (literal_start l)) in omega arith

rest_unique : {t : List ℕ} {a b c : ℕ} {x y : Content} → PcdataRest t a b x → PcdataRest t a c y → After t b → After t c → Same b c x y
rest_unique (plain s g e p) (plain r h d q) f i = let z = point s r g h refl refl in (e ∙ ap suc z ∙ sym d, p ∙ sym q)
rest_unique (plain s g e p) (starred m q) f i = absurd (plain_starred s g m (rw e at f))
rest_unique (plain s g e p) (mixed r h m q) f i = absurd (let z = point s r g h refl refl in let y = clash g (rw (sym z) at h) in omega arith)
rest_unique (starred m p) (plain r h d q) f i = absurd (plain_starred r h m (rw d at i))
rest_unique (starred m p) (starred n q) f i = ((names_unique m n).0, p ∙ sym q)
rest_unique (starred m p) (mixed r h n q) f i = absurd (bar_first r h m)
rest_unique (mixed s g m p) (plain r h d q) f i = absurd (let z = point s r g h refl refl in let y = clash g (rw (sym z) at h) in omega arith)
rest_unique (mixed s g m p) (starred n q) f i = absurd (bar_first s g n)
rest_unique (mixed s g m p) (mixed r h n q) f i =
    let z = point s r g h refl refl in
    let y = names_unique m n in
    (y.0, p ∙ rw (z, y.1) (sym q))

-- what a content begins with
data View (t : List ℕ) (a b : ℕ) (x : Content) : Type 0 where
  view_empty : Literal t (69 ∷ 77 ∷ 80 ∷ 84 ∷ 89 ∷ []) a b → x ≡ is-empty → View t a b x
  view_any : Literal t (65 ∷ 78 ∷ 89 ∷ []) a b → x ≡ is_any a → View t a b x
  view_text : {m : ℕ} → Pcdata t a m → PcdataRest t m b x → View t a b x
  view_children : {p : Particle} → Children t a b p → x ≡ is_children p → View t a b x

view : {t : List ℕ} {a b : ℕ} {x : Content} → Spec t a b x → View t a b x
view (spec_empty l) = view_empty l refl
view (spec_any l) = view_any l refl
view (spec_text p s g) = view_text p (plain s g refl refl)
view (spec_starred p n) = view_text p (starred n refl)
view (spec_mixed p s g n) = view_text p (mixed s g n refl)
view (spec_children c) = view_children c refl

children_open : {t : List ℕ} {a b : ℕ} {p : Particle} → Children t a b p → Byte t a 40
children_open (as_choice g s r m) = g
children_open (as_sequence g s r m) = g

pub row_no_number_sign : {t : List ℕ} {s a b : ℕ} {ps : Particles} → Row t s a b ps → Byte t a 35 → ⊥
row_no_number_sign (closed c s g) h = cp_no_number_sign c h
  where
    cp_no_number_sign : {t : List ℕ} {a b : ℕ} {p : Particle} → Cp t a b p → Byte t a 35 → ⊥
    cp_no_number_sign (cp_name n m) h = off h refl n.start
    cp_no_number_sign (cp_group c) h = let z = clash (children_open c) h in omega arith
row_no_number_sign (separated c s g u r) h = cp_no_number_sign c h
  where
    cp_no_number_sign : {t : List ℕ} {a b : ℕ} {p : Particle} → Cp t a b p → Byte t a 35 → ⊥
    cp_no_number_sign (cp_name n m) h = off h refl n.start
    cp_no_number_sign (cp_group c) h = let z = clash (children_open c) h in omega arith

text_no_children : {t : List ℕ} {a m b : ℕ} {p : Particle} → Pcdata t a m → Children t a b p → ⊥
text_no_children q (as_choice g s r m) = let z = span_unique q.blanks s (off (literal_start q.word) refl) (row_no_space r) in row_no_number_sign r (rw z at (literal_start q.word))
text_no_children q (as_sequence g s r m) = let z = span_unique q.blanks s (off (literal_start q.word) refl) (row_no_space r) in row_no_number_sign r (rw z at (literal_start q.word))

pcdata_unique : {t : List ℕ} {a b c : ℕ} → Pcdata t a b → Pcdata t a c → b ≡ c
pcdata_unique p q =
    let z = point p.blanks q.blanks (literal_start p.word) (literal_start q.word) refl refl in
    literal_unique p.word (rw (sym z) at q.word)

differ : {t : List ℕ} {a x y : ℕ} → Byte t a x → Byte t a y → x ≢ y → ⊥
differ g h n = n (clash g h)

view_unique : {t : List ℕ} {a b c : ℕ} {x y : Content} → View t a b x → View t a c y → After t b → After t c → Same b c x y
view_unique (view_empty l e) (view_empty m d) f g = (literal_unique l m, e ∙ sym d)
view_unique (view_empty l e) (view_any m d) f g = absurd (differ (literal_start l) (literal_start m) (λ z. omega arith))
view_unique (view_empty l e) (view_text p r) f g = absurd (differ (literal_start l) p.open_it (λ z. omega arith))
view_unique (view_empty l e) (view_children c d) f g = absurd (differ (literal_start l) (children_open c) (λ z. omega arith))
view_unique (view_any l e) (view_empty m d) f g = absurd (differ (literal_start l) (literal_start m) (λ z. omega arith))
view_unique (view_any l e) (view_any m d) f g = (literal_unique l m, e ∙ sym d)
view_unique (view_any l e) (view_text p r) f g = absurd (differ (literal_start l) p.open_it (λ z. omega arith))
view_unique (view_any l e) (view_children c d) f g = absurd (differ (literal_start l) (children_open c) (λ z. omega arith))
view_unique (view_text p r) (view_empty m d) f g = absurd (differ p.open_it (literal_start m) (λ z. omega arith))
view_unique (view_text p r) (view_any m d) f g = absurd (differ p.open_it (literal_start m) (λ z. omega arith))
view_unique (view_text p r) (view_text q s) f g = rest_unique r (rw (sym (pcdata_unique p q)) at s) f g
view_unique (view_text p r) (view_children c d) f g = absurd (text_no_children p c)
view_unique (view_children c e) (view_empty m d) f g = absurd (differ (children_open c) (literal_start m) (λ z. omega arith))
view_unique (view_children c e) (view_any m d) f g = absurd (differ (children_open c) (literal_start m) (λ z. omega arith))
view_unique (view_children c e) (view_text p r) f g = absurd (text_no_children p c)
view_unique (view_children c e) (view_children q d) f g = let z = children_unique c q (settled (cp_group c) f) (settled (cp_group q) g) in (z.end, e ∙ rw z.tree (sym d))

pub spec_no_space : {t : List ℕ} {a b : ℕ} {x : Content} → Spec t a b x → ¬ Of is_space t a
spec_no_space (spec_empty l) o = off (literal_start l) refl o
spec_no_space (spec_any l) o = off (literal_start l) refl o
spec_no_space (spec_text p s g) o = off p.open_it refl o
spec_no_space (spec_starred p n) o = off p.open_it refl o
spec_no_space (spec_mixed p s g n) o = off p.open_it refl o
spec_no_space (spec_children c) o = off (children_open c) refl o

space_unique : {t : List ℕ} {a b c : ℕ} → Space t a b → Space t a c → ¬ Of is_space t b → ¬ Of is_space t c → b ≡ c
space_unique s r f g = span_unique s.rest r.rest f g

element_unique : {t : List ℕ} {a b c : ℕ} {d e : Declaration} → Element t a b d → Element t a c e → (b ≡ c) × (d ≡ e)
element_unique (element l s n p u x v g) (element m r o q w y k h) =
    let z = literal_unique l m in
    let i = space_unique s (rw (sym z) at r) (name_no_space n) (name_no_space o) in
    let o' = rw (sym i) at o in
    let j = name_unique n o' (apart Rattle.grammar.proofs.Pieces.space_no_name u.start) (apart Rattle.grammar.proofs.Pieces.space_no_name w.start) in
    let f = space_unique u (rw (sym j) at w) (spec_no_space x) (spec_no_space y) in
    let a = view_unique (view x) (rw (sym f) at (view y)) (after_blanks v g refl refl) (after_blanks k h refl refl) in
    let b = point v (rw (sym a.0) at k) g h refl refl in
    (ap suc b, declaration_path (p ∙ i ∙ sym q) (name_same n o' j) a.1)

remark_unique : {t : List ℕ} {a b c : ℕ} → Remark t a b → Remark t a c → b ≡ c
remark_unique (ends l) (ends m) = literal_unique l m
remark_unique (ends l) (no_dash o r) = absurd (off (literal_start l) refl o)
remark_unique (ends (byte g (byte h l))) (one_dash i o r) = absurd (off h refl o)
remark_unique (no_dash o r) (ends l) = absurd (off (literal_start l) refl o)
remark_unique (no_dash o r) (no_dash p s) = remark_unique r s
remark_unique (no_dash o r) (one_dash i p s) = absurd (off i refl o)
remark_unique (one_dash i o r) (ends (byte g (byte h l))) = absurd (off h refl o)
remark_unique (one_dash i o r) (no_dash p s) = absurd (off i refl p)
remark_unique (one_dash i o r) (one_dash j p s) = remark_unique r s

comment_unique : {t : List ℕ} {a b c : ℕ} → Comment t a b → Comment t a c → b ≡ c
comment_unique p q = let z = literal_unique p.open_it q.open_it in remark_unique p.rest (rw (sym z) at q.rest)

pub comment_third : {t : List ℕ} {a b : ℕ} → Comment t a b → Byte t (suc (suc a)) 45
comment_third c = third c.open_it
  where
    third : {t : List ℕ} {a b : ℕ} → Literal t (60 ∷ 33 ∷ 45 ∷ 45 ∷ []) a b → Byte t (suc (suc a)) 45
    third (byte g (byte h (byte i l))) = i

pub element_start : {t : List ℕ} {a b : ℕ} {d : Declaration} → Element t a b d → Byte t a 60
element_start (element l s n p u x v g) = literal_start l

pub element_third : {t : List ℕ} {a b : ℕ} {d : Declaration} → Element t a b d → Byte t (suc (suc a)) 69
element_third (element (byte g (byte h (byte i l))) s n p u x v k) = i

over : {t : List ℕ} {a x : ℕ} → a ≡ length t → Byte t a x → ⊥
over e g = omega (arith, g.within)

over_of : {class : ℕ → Bool} {t : List ℕ} {a : ℕ} → a ≡ length t → Of class t a → ⊥
over_of e g = omega (arith, g.within)

items_unique : {t : List ℕ} {a : ℕ} {ds es : List Declaration} → Items t a ds → Items t a es → ds ≡ es
items_unique (no_more e) (no_more d) = refl
items_unique (no_more e) (a_space o r) = absurd (over_of e o)
items_unique (no_more e) (a_comment c r) = absurd (over e (literal_start c.open_it))
items_unique (no_more e) (a_declaration d r) = absurd (over e (element_start d))
items_unique (a_space o r) (no_more d) = absurd (over_of d o)
items_unique (a_space o r) (a_space p s) = items_unique r s
items_unique (a_space o r) (a_comment c s) = absurd (off (literal_start c.open_it) refl o)
items_unique (a_space o r) (a_declaration d s) = absurd (off (element_start d) refl o)
items_unique (a_comment c r) (no_more d) = absurd (over d (literal_start c.open_it))
items_unique (a_comment c r) (a_space p s) = absurd (off (literal_start c.open_it) refl p)
items_unique (a_comment c r) (a_comment d s) = items_unique r (rw (sym (comment_unique c d)) at s)
items_unique (a_comment c r) (a_declaration d s) = absurd (differ (comment_third c) (element_third d) (λ z. omega arith))
items_unique (a_declaration d r) (no_more e) = absurd (over e (element_start d))
items_unique (a_declaration d r) (a_space p s) = absurd (off (element_start d) refl p)
items_unique (a_declaration d r) (a_comment c s) = absurd (differ (comment_third c) (element_third d) (λ z. omega arith))
items_unique (a_declaration d r) (a_declaration e s) = let z = element_unique d e in cons_path z.1 (items_unique r (rw (sym z.0) at s))

-- a text has at most one tree
pub one_tree : {t : List ℕ} {d e : Declaration} {ds es : List Declaration} → Text t d ds → Text t e es → d ∷ ds ≡ e ∷ es
one_tree x y = items_unique x.items y.items
