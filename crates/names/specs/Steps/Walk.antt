-- Walking through the declarations of a text that is of the grammar. Assumes nothing.
use Rattle.std.specs.Prelude.{ℕ, suc, ◌≤◌, ◌<◌, ◌≡◌, List, [], ◌∷◌, length, Option, Some, None}
use Prim.Native.Char.{code}
use Rattle.grammar.specs.Bytes.{is_name_byte, Byte, Of}
use Rattle.grammar.specs.Tree.{Declaration}
use Rattle.grammar.specs.Grammar.{Blanks, Name, Spec, Items}
use Rattle.grammar.proofs.Pieces.{After}
use Rattle.names.specs.declared.walk.Declared.{Declared}

-- the whole name at a
pub record NameAt (t : List ℕ) (a : ℕ) (n : List ℕ) : Type 0 where
  pub end : ℕ
  pub is_name : Name t a end n
  pub over : ¬ Of is_name_byte t end

-- a declaration whose name and whose content stand at these places, and those behind it
pub record DeclaredAt (t : List ℕ) (d : Declaration) (ds : List Declaration) (name body : ℕ) : Type 0 where
  pub place : d.place ≡ name
  pub named : NameAt t name d.named
  pub before : name < body
  pub end : ℕ
  pub spec : Spec t body end d.content
  pub after : After t end
  pub close : ℕ
  pub blanks : Blanks t end close
  pub ends : Byte t close (code ">")
  pub rest : Items t (suc close) ds

-- the first declaration from a on, or none
pub data NextOf (t : List ℕ) : List Declaration → Option Declared → Type 0 where
  none_left : NextOf t [] None
  one_there : {d : Declaration} {ds : List Declaration} {p : Declared} → DeclaredAt t d ds p.name p.body → NextOf t (d ∷ ds) (Some p)

abbrev pub Moved : List ℕ → ℕ → Option Declared → Type 0
Moved t a None = Unit {0}
Moved t a (Some p) = (a < p.body) × (p.body ≤ length t)

pub record NextRead (t : List ℕ) (a : ℕ) (r : Option Declared) : Type 0 where
  pub of : (ds : List Declaration) → Items t a ds → NextOf t ds r
  pub moved : Moved t a r

-- the place behind a declaration whose content stands at body
pub record BehindRead (t : List ℕ) (body e : ℕ) : Type 0 where
  pub of : (d : Declaration) (ds : List Declaration) (name : ℕ) → DeclaredAt t d ds name body → Items t e ds
  pub from : body ≤ e
  pub inside : body ≤ length t → e ≤ length t
