-- "25 a line that isn't one of these, 26 a privilege not above the one before, each with the line's first byte, the earliest deciding" (document 02,
-- order 10). Assumes nothing.
use Rattle.std.specs.Prelude.{ℕ, suc, ◌≤◌, ◌<◌, ◌≡◌, ◌⊎◌, List, length}
use Prim.Native.Char.{code}
use Rattle.std.proofs.Math.Seq.{slice}
use Rattle.grammar.specs.Bytes.{Byte}
use Rattle.listing.specs.Listing.{LineOf}

-- a line starts at a: at the front of the text, or behind a newline
pub data Starts (t : List ℕ) : ℕ → Type 0 where
  at_front : 0 < length t → Starts t 0
  behind_newline : {a : ℕ} → Byte t a (code "\n") → suc a < length t → Starts t (suc a)

-- a mark that is set
abbrev pub IsSet : ℕ → Type 0
IsSet mark = (mark ≡ 1) ⊎ (mark ≡ 2)

-- a line starts at a, and from a to b stands the line of privilege p with this mark
pub record LineAt (label : ℕ → List ℕ) (ws t : List ℕ) (a b p mark : ℕ) : Type 0 where
  pub starts : Starts t a
  pub within : b ≤ length t
  pub mark_set : IsSet mark
  pub line : LineOf label ws p mark (slice a b t)

-- 25: "a line that isn't one of these"
pub record NoLine (label : ℕ → List ℕ) (ws t : List ℕ) (a : ℕ) : Type 0 where
  pub starts : Starts t a
  pub none : (b p mark : ℕ) → ¬ LineAt label ws t a b p mark

-- 26: "a privilege not above the one before"
pub record NotAbove (label : ℕ → List ℕ) (ws t : List ℕ) (a : ℕ) : Type 0 where
  pub start : ℕ
  pub last : ℕ
  pub last_mark : ℕ
  pub end : ℕ
  pub privilege : ℕ
  pub mark : ℕ
  pub before : LineAt label ws t start a last last_mark
  pub line : LineAt label ws t a end privilege mark
  pub not_above : privilege ≤ last

pub data Fault (label : ℕ → List ℕ) (ws t : List ℕ) (number place : ℕ) : Type 0 where
  no_line : number ≡ 25 → NoLine label ws t place → Fault label ws t number place
  not_above : number ≡ 26 → NotAbove label ws t place → Fault label ws t number place

-- "the earliest deciding"
pub record FirstFault (label : ℕ → List ℕ) (ws t : List ℕ) (number place : ℕ) : Type 0 where
  pub fault : Fault label ws t number place
  pub earliest : (other k : ℕ) → k < place → ¬ Fault label ws t other k
