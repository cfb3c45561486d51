-- The misnamed names of one declaration, by the numbers of names. Assumes nothing.
use Rattle.std.specs.Prelude.{ℕ, ◌≤◌, ◌<◌, ◌≡◌, List, length}
use Prim.Native.Char.{code}
use Rattle.grammar.specs.Bytes.{Byte}
use Rattle.grammar.specs.Tree.{Use, Declaration, Nth, uses_of}
use Rattle.model.specs.Tables.{number_of}
use Rattle.names.specs.Steps.Walk.{DeclaredAt}
use Rattle.names.specs.Steps.Uses.{Flat}
use Rattle.names.specs.Steps.Names.{Listed}
use Rattle.std.specs.Prelude.{Option, Some, None}

-- the declarations are counted, at most 256 of them, and their names listed
pub record Counted (t : List ℕ) (ds : List Declaration) (list : List ℕ) (count : ℕ) : Type 0 where
  pub size : length ds ≡ count
  pub few : count ≤ 256
  pub listed : Listed t ds list count

-- the lowest place of which P holds, or none
abbrev pub Lowest : (ℕ → Type 0) → Option ℕ → Type 0
Lowest P (Some k) = P k × ((j : ℕ) → j < k → ¬ P j)
Lowest P None = (j : ℕ) → ¬ P j

-- a used name, at place k, whose number is that of no declaration
pub record Unknown (number : List ℕ → ℕ) (declared : ℕ) (us : List Use) (k : ℕ) : Type 0 where
  pub index : ℕ
  pub used : Use
  pub there : Nth us index used
  pub high : declared ≤ number used.bytes
  pub is : used.place ≡ k

-- a name of declaration m, at place k: its own, with the number of an earlier one, or one that it uses
pub data Wrong (number : List ℕ → ℕ) (declared m : ℕ) (d : Declaration) (k : ℕ) : Type 0 where
  again : number d.named < m → d.place ≡ k → Wrong number declared m d k
  unknown : Unknown number declared (uses_of d.content) k → Wrong number declared m d k

-- the first of the names from a up to '>'
pub record UnknownRead (t list : List ℕ) (count a : ℕ) (r : Option ℕ) : Type 0 where
  pub of : (ds : List Declaration) (us : List Use) (c : ℕ) → Flat t a c us → Byte t c (code ">") → Counted t ds list count
      → Lowest (Unknown (number_of ds) count us) r

-- the first of a declaration's names
pub record WrongRead (t list : List ℕ) (count m name body : ℕ) (r : Option ℕ) : Type 0 where
  pub of : (ds : List Declaration) (d : Declaration) (rest : List Declaration) → DeclaredAt t d rest name body → Counted t ds list count
      → Lowest (Wrong (number_of ds) count m d) r
