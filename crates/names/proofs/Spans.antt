-- Spans, words and names up to where they end. Assumes nothing.
use Rattle.std.proofs.Common.{ℕ, ◌+◌, ◌≡◌, ◌∙◌, ap, Bool, true, List, [], ◌∷◌, arith, length}
use Rattle.grammar.specs.Bytes.{is_name_start, is_name_byte, Of, Span, stop, go_on, Literal, done, byte}
use Rattle.grammar.specs.Grammar.{Name}
use Rattle.grammar.proofs.Pieces.{span_unique}
use Rattle.names.specs.Steps.Pieces.{NameEnd}

pub literal_end : {t cs : List ℕ} {a b : ℕ} → Literal t cs a b → b ≡ a + length cs
literal_end done = omega arith
literal_end (byte g l) = let h = literal_end l in omega arith

abbrev All : (ℕ → Bool) → List ℕ → Type 0
All class [] = Unit {0}
All class (c ∷ cs) = (class c ≡ true) × All class cs

-- a word of one class
pub literal_span : {class : ℕ → Bool} {t cs : List ℕ} {a b : ℕ} → All class cs → Literal t cs a b → Span class t a b
literal_span h done = stop
literal_span {class} h (byte g l) = go_on (record { within = g.within; is = ap class g.is ∙ h.0 }) (literal_span h.1 l)

pub start_byte : {t : List ℕ} {a : ℕ} → Of is_name_start t a → Of is_name_byte t a
start_byte {t} {a} o = record { within = o.within; is = rw o.is }

-- a name is a span
pub name_span : {t n : List ℕ} {a b : ℕ} → Name t a b n → Span is_name_byte t a b
name_span n = go_on (start_byte n.start) n.rest

-- the bytes of a name end at one place
pub ends_there : {t : List ℕ} {a b e : ℕ} → NameEnd t a e → Span is_name_byte t a b → ¬ Of is_name_byte t b → b ≡ e
ends_there x s f = span_unique s x.bytes f x.over
