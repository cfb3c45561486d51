-- Yes and no about a byte of the text. Assumes nothing.
use Rattle.std.proofs.Common.{ℕ, suc, ◌≡◌, Bool, true, false, List, ◌∷◌, Result, Ok, Err}
use Rattle.grammar.specs.Bytes.{Byte, Of, Span, stop, go_on, byte}
use Rattle.scan.specs.Steps.Readers.{Tells, later, WordRead}
use Rattle.scan.specs.declared.Stop.{Stop}
use Rattle.scan.specs.declared.Stop.TheVariants.{Bad, Over}

-- a test and its answer
pub yes_told : {P : Type 0} {r : Bool} → Tells P r → r ≡ true → P
yes_told {P} x e = rw e at x

pub no_told : {P : Type 0} {r : Bool} → Tells P r → r ≡ false → ¬ P
no_told {P} x e = rw e at x

-- a span and one byte more
pub span_more : {class : ℕ → Bool} {t : List ℕ} {a b : ℕ} → Span class t a b → Of class t b → Span class t a (suc b)
span_more stop o = go_on o stop
span_more (go_on p s) o = go_on p (span_more s o)

-- a word and one byte before it
pub word_more : (t cs : List ℕ) (c i : ℕ) → Byte t i c → (r : Result ℕ Stop) → WordRead t cs (suc i) r → WordRead t (c ∷ cs) i r
word_more t cs c i b (Ok e) x = (x.0, byte b x.1)
word_more t cs c i b (Err (Bad k)) x = later b x
word_more t cs c i b (Err (Over k)) x = absurd x
