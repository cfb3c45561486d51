-- Bytes, spans, literals and marks end at one place only. Assumes nothing.
use Prim.Native.Nat.{ℕ, suc}
use Prim.Native.Char.{code}
use mathlib.Core.Path.{◌≡◌, refl, sym, ◌∙◌, ap}
use mathlib.Core.Bool.{Bool, true, false, ◌||◌, cond}
use mathlib.Core.List.{List, [], ◌∷◌}
use native.Mathlib.Omega.{arith}
use lib.Dec.{eqb, eqb→eq}
use lib.ListN.{get_or}
use Rattle.grammar.specs.Bytes.{ascii, one_of, is_space, is_name_start, is_name_byte, is_mark, Byte, Of, Span, stop, go_on, Literal, done, byte}
use Rattle.grammar.specs.Tree.{Mark, once, maybe, any, several}
use Rattle.grammar.specs.Grammar.{Blanks, Name, MarkAt, no_mark, question, asterisk, plus}

pub true_false : {b : Bool} → b ≡ true → b ≡ false → ⊥
true_false {b} h k = let z : true ≡ false = sym h ∙ k in let y : ◌≡◌ {A = ℕ} (cond true 0 1) (cond false 0 1) = ap {B = ℕ} (λ (x : Bool). cond x 0 1) z in omega arith

-- two facts of one byte
pub clash : {t : List ℕ} {a x y : ℕ} → Byte t a x → Byte t a y → x ≡ y
clash g h = sym g.is ∙ h.is

pub off : {class : ℕ → Bool} {t : List ℕ} {a x : ℕ} → Byte t a x → class x ≡ false → Of class t a → ⊥
off {class} g f o = true_false o.is (ap class g.is ∙ f)

pub apart : {class other : ℕ → Bool} {t : List ℕ} {a : ℕ} → ((b : ℕ) → class b ≡ true → other b ≡ false) → Of class t a → Of other t a → ⊥
apart {t = t} {a = a} f o p = true_false p.is (f (get_or t a 0) o.is)

-- none of these bytes is of the class
abbrev Avoids : (ℕ → Bool) → List ℕ → Type 0
Avoids class [] = Unit {0}
Avoids class (c ∷ cs) = (class c ≡ false) × Avoids class cs

pub avoid : (class : ℕ → Bool) (cs : List ℕ) → Avoids class cs → (b : ℕ) → one_of cs b ≡ true → class b ≡ false
avoid class [] a b h = absurd (true_false h refl)
avoid class (c ∷ cs) a b h = go (λ k. avoid class cs a.1 b k) (eqb b c) refl h
  where
    go : (one_of cs b ≡ true → class b ≡ false) → (x : Bool) → eqb b c ≡ x → (x || one_of cs b) ≡ true → class b ≡ false
    go f true e k = let q : b ≡ c = eqb→eq b c (rw e tt) in rw q a.0
    go f false e k = f k

pub space_no_name : (b : ℕ) → is_space b ≡ true → is_name_byte b ≡ false
space_no_name = avoid is_name_byte (ascii " \t\r\n") (refl, (refl, (refl, (refl, tt))))

pub space_no_start : (b : ℕ) → is_space b ≡ true → is_name_start b ≡ false
space_no_start = avoid is_name_start (ascii " \t\r\n") (refl, (refl, (refl, (refl, tt))))

pub space_no_mark : (b : ℕ) → is_space b ≡ true → is_mark b ≡ false
space_no_mark = avoid is_mark (ascii " \t\r\n") (refl, (refl, (refl, (refl, tt))))

pub mark_no_name : (b : ℕ) → is_mark b ≡ true → is_name_byte b ≡ false
mark_no_name = avoid is_name_byte (ascii "?*+") (refl, (refl, (refl, tt)))

pub span_unique : {class : ℕ → Bool} {t : List ℕ} {a b c : ℕ} → Span class t a b → Span class t a c → ¬ Of class t b → ¬ Of class t c → b ≡ c
span_unique stop stop f g = refl
span_unique stop (go_on o s) f g = absurd (f o)
span_unique (go_on o s) stop f g = absurd (g o)
span_unique (go_on o s) (go_on p r) f g = span_unique s r f g

pub literal_unique : {t cs : List ℕ} {a b c : ℕ} → Literal t cs a b → Literal t cs a c → b ≡ c
literal_unique done done = refl
literal_unique (byte g l) (byte h m) = literal_unique l m

pub literal_start : {t cs : List ℕ} {a b c : ℕ} → Literal t (c ∷ cs) a b → Byte t a c
literal_start (byte g l) = g

-- what a mark is, by its byte
abbrev mark_of : ℕ → Mark
mark_of b = cond (eqb b (code "?")) maybe (cond (eqb b (code "*")) any several)

data MarkView (t : List ℕ) (a b : ℕ) (k : Mark) : Type 0 where
  none_there : b ≡ a → k ≡ once → MarkView t a b k
  one_there : Of is_mark t a → b ≡ suc a → k ≡ mark_of (get_or t a 0) → MarkView t a b k

mark_of_byte : {t : List ℕ} {a x : ℕ} → Byte t a x → is_mark x ≡ true → Of is_mark t a
mark_of_byte g e = record { within = g.within; is = ap is_mark g.is ∙ e }

mark_view : {t : List ℕ} {a b : ℕ} {k : Mark} → MarkAt t a b k → MarkView t a b k
mark_view no_mark = none_there refl refl
mark_view (question g) = one_there (mark_of_byte g refl) refl (sym (ap {B = Mark} mark_of g.is))
mark_view (asterisk g) = one_there (mark_of_byte g refl) refl (sym (ap {B = Mark} mark_of g.is))
mark_view (plus g) = one_there (mark_of_byte g refl) refl (sym (ap {B = Mark} mark_of g.is))

-- neither a name nor a mark goes on at b
pub record After (t : List ℕ) (b : ℕ) : Type 0 where
  pub no_name : ¬ Of is_name_byte t b
  pub unmarked : ¬ Of is_mark t b

pub mark_unique : {t : List ℕ} {a b c : ℕ} {k l : Mark} → MarkAt t a b k → MarkAt t a c l → (k ≡ once → ¬ Of is_mark t b) → (l ≡ once → ¬ Of is_mark t c) → (b ≡ c) × (k ≡ l)
mark_unique {t} {a} {b} {c} {k} {l} m n f g = both (mark_view m) (mark_view n)
  where
    both : MarkView t a b k → MarkView t a c l → (b ≡ c) × (k ≡ l)
    both (none_there e r) (none_there d s) = (e ∙ sym d, r ∙ sym s)
    both (none_there e r) (one_there o d s) = absurd (f r (rw e o))
    both (one_there o e r) (none_there d s) = absurd (g s (rw d o))
    both (one_there o e r) (one_there p d s) = (e ∙ sym d, r ∙ sym s)

-- no name goes on where a mark may stand
pub mark_ends_name : {t : List ℕ} {a b : ℕ} {k : Mark} → MarkAt t a b k → (k ≡ once → ¬ Of is_name_byte t b) → ¬ Of is_name_byte t a
mark_ends_name {t} {a} {b} {k} m f o = go (mark_view m)
  where
    go : MarkView t a b k → ⊥
    go (none_there e r) = f r (rw e o)
    go (one_there p e r) = apart mark_no_name p o

pub name_unique : {t n m : List ℕ} {a b c : ℕ} → Name t a b n → Name t a c m → ¬ Of is_name_byte t b → ¬ Of is_name_byte t c → b ≡ c
name_unique n m f g = span_unique n.rest m.rest f g

-- blanks and then a byte: nothing goes on before them, and the byte stands at one place
pub after_blanks : {t : List ℕ} {b c x : ℕ} → Blanks t b c → Byte t c x → is_name_byte x ≡ false → is_mark x ≡ false → After t b
after_blanks stop g e d = record { no_name = off g e; unmarked = off g d }
after_blanks (go_on o s) g e d = record { no_name = apart space_no_name o; unmarked = apart space_no_mark o }

pub point : {t : List ℕ} {a b c x y : ℕ} → Blanks t a b → Blanks t a c → Byte t b x → Byte t c y → is_space x ≡ false → is_space y ≡ false → b ≡ c
point s r g h e d = span_unique s r (off g e) (off h d)
