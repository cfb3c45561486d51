-- What is known of a text at each pass over it. Assumes nothing.
use Rattle.std.specs.Prelude.{ℕ, ◌≡◌, List, ◌∷◌, length}
use Rattle.grammar.specs.Tree.{Declaration}
use Rattle.scan.specs.Steps.Scanned.{Read}
use Rattle.write.specs.Steps.Code.{Coded, Counted}
use Rattle.code.specs.Steps.Putting.{Known}
use Rattle.dtd.specs.Steps.Last.{Small}

-- its declarations
abbrev pub declarations : {t : List ℕ} → Read t → List Declaration
declarations r = r.head ∷ r.tail

-- the list of its declared names
pub record Collected (t list : List ℕ) (count : ℕ) : Type 0 where
  pub read : Read t
  pub known : Known t list count (declarations read)

-- and its code
pub record Encoded (t list : List ℕ) (count : ℕ) (code : List ℕ) : Type 0 where
  pub collected : Collected t list count
  pub coded : Coded (declarations collected.read) code

-- a table that can be written
pub record Writable (ds : List Declaration) (code : List ℕ) (declared types kids : ℕ) : Type 0 where
  pub coded : Coded ds code
  pub all : length ds ≡ declared
  pub counted : Counted ds types kids
  pub small : Small ds
