-- What the readers of the smallest pieces say of the text alone. Assumes nothing.
use Rattle.std.specs.Prelude.{ℕ, suc, ◌+◌, ◌≤◌, ◌≡◌, Bool, true, false, List, ◌∷◌, length}
use Prim.Native.Char.{code}
use Rattle.grammar.specs.Bytes.{is_space, is_name_start, is_name_byte, Byte, Of, Span, Literal}
use Rattle.grammar.specs.Grammar.{Blanks}
use Rattle.scan.specs.declared.Stop.{Stop}
use Rattle.std.specs.Prelude.{Result, Ok, Err}
use Rattle.scan.specs.declared.Stop.TheVariants.{Bad, Over}

-- yes is right, and so is no
abbrev pub Tells : Type 0 → Bool → Type 0
Tells P true = P
Tells P false = ¬ P

-- the byte with which a content begins
abbrev pub Opens : List ℕ → ℕ → Type 0
Opens t a = Byte t a (code "(")

abbrev pub BeginsAny : List ℕ → ℕ → Type 0
BeginsAny t a = Byte t a (code "A")

-- white space up to e, and no more of it
pub record BlanksRead (t : List ℕ) (a e : ℕ) : Type 0 where
  pub inside : e ≤ length t
  pub blanks : Blanks t a e
  pub over : ¬ Of is_space t e

-- one byte or more of it
abbrev pub SpaceRead : List ℕ → ℕ → Result ℕ Stop → Type 0
SpaceRead t a (Ok e) = Of is_space t a × BlanksRead t (suc a) e
SpaceRead t a (Err (Bad k)) = (k ≡ a) × (¬ Of is_space t a)
SpaceRead t a (Err (Over k)) = ⊥

-- one byte of a class, or none
pub data MaybeRead (class : ℕ → Bool) (t : List ℕ) : ℕ → ℕ → Type 0 where
  taken : {a : ℕ} → Of class t a → MaybeRead class t a (suc a)
  left : {a : ℕ} → ¬ Of class t a → MaybeRead class t a a

-- a name of at most 32 bytes up to e, and no more of it
pub record NameGot (t : List ℕ) (a e : ℕ) : Type 0 where
  pub inside : e ≤ length t
  pub start : Of is_name_start t a
  pub rest : Span is_name_byte t (suc a) e
  pub over : ¬ Of is_name_byte t e
  pub short : e ≤ a + 32

-- a name with a 33rd byte at k
pub record NameLong (t : List ℕ) (a k : ℕ) : Type 0 where
  pub start : Of is_name_start t a
  pub rest : Span is_name_byte t (suc a) k
  pub goes_on : Of is_name_byte t k
  pub long : k ≡ a + 32

abbrev pub NameRead : List ℕ → ℕ → Result ℕ Stop → Type 0
NameRead t a (Ok e) = NameGot t a e
NameRead t a (Err (Bad k)) = (k ≡ a) × (¬ Of is_name_start t a)
NameRead t a (Err (Over k)) = NameLong t a k

-- the bytes stand there up to k, and not at k
pub data Differs (t : List ℕ) : List ℕ → ℕ → ℕ → Type 0 where
  here : {c a : ℕ} {cs : List ℕ} → a ≤ length t → ¬ Byte t a c → Differs t (c ∷ cs) a a
  later : {c a k : ℕ} {cs : List ℕ} → Byte t a c → Differs t cs (suc a) k → Differs t (c ∷ cs) a k

abbrev pub WordRead : List ℕ → List ℕ → ℕ → Result ℕ Stop → Type 0
WordRead t cs a (Ok e) = (e ≤ length t) × Literal t cs a e
WordRead t cs a (Err (Bad k)) = Differs t cs a k
WordRead t cs a (Err (Over k)) = ⊥

-- the place of a step
abbrev pub place_of : Result ℕ Stop → ℕ
place_of (Ok e) = e
place_of (Err (Bad k)) = k
place_of (Err (Over k)) = k
