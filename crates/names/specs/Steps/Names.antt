-- The list of the declared names, in their order, and what is found by it. Assumes nothing.
use Rattle.std.specs.Prelude.{ℕ, suc, ◌+◌, ◌*◌, ◌≤◌, ◌<◌, ◌≡◌, ◌≢◌, List, length, get_or}
use Rattle.grammar.specs.Tree.{Declaration, Nth}
use Rattle.grammar.specs.Grammar.{Items}
use Rattle.model.specs.Names.{Misnamed}
use Rattle.model.specs.Tables.{number_of}
use Rattle.names.specs.Steps.Walk.{NameAt}
use Rattle.names.specs.Steps.Order.{Upto}
use Rattle.std.specs.Prelude.{Option, Some, None}

-- an entry has two words: the place of a name, and its number
abbrev pub place_in : List ℕ → ℕ → ℕ
place_in list i = get_or list (2 * i) 0

abbrev pub number_at : List ℕ → ℕ → ℕ
number_at list i = get_or list (2 * i + 1) 0

-- none of the first i declarations has this name
pub record NoneBefore (ds : List Declaration) (n : List ℕ) (i : ℕ) : Type 0 where
  pub other : (j : ℕ) (d : Declaration) → Nth ds j d → j < i → d.named ≢ n

-- declaration k is the first with this name
pub record FirstWith (ds : List Declaration) (n : List ℕ) (k : ℕ) : Type 0 where
  pub declaration : Declaration
  pub there : Nth ds k declaration
  pub same : declaration.named ≡ n
  pub before : NoneBefore ds n k

-- entry i is a declared name, with the number of the first declaration that has it
pub record Entry (t : List ℕ) (ds : List Declaration) (list : List ℕ) (i : ℕ) : Type 0 where
  pub name : List ℕ
  pub there : NameAt t (place_in list i) name
  pub number : FirstWith ds name (number_at list i)

-- a name has an entry, one of the first `size`
pub record Among (t list : List ℕ) (size : ℕ) (n : List ℕ) : Type 0 where
  pub index : ℕ
  pub below : index < size
  pub there : NameAt t (place_in list index) n

-- the names of the first `size` declarations, in order
pub record Listed (t : List ℕ) (ds : List Declaration) (list : List ℕ) (size : ℕ) : Type 0 where
  pub each : (i : ℕ) → i < size → Entry t ds list i
  pub ordered : (i j : ℕ) → i < j → j < size → (n m : List ℕ) → NameAt t (place_in list i) n → NameAt t (place_in list j) m → Upto n m
  pub all : (k : ℕ) (d : Declaration) → Nth ds k d → k < size → Among t list size d.named

-- of the first `size` entries, those below `low` stand up to the name n, and those from `high` on do not
pub record Ranked (t list : List ℕ) (size : ℕ) (n : List ℕ) (low high : ℕ) : Type 0 where
  pub upto : (i : ℕ) → i < low → (m : List ℕ) → NameAt t (place_in list i) m → Upto m n
  pub behind : (i : ℕ) → high ≤ i → i < size → (m : List ℕ) → NameAt t (place_in list i) m → ¬ Upto m n

-- how many entries stand up to the name at a
pub record RankRead (t list : List ℕ) (size a r : ℕ) : Type 0 where
  pub within : r ≤ size
  pub of : (ds : List Declaration) (n : List ℕ) → Listed t ds list size → NameAt t a n → Ranked t list size n r r

-- the number of a name among the first `size` declarations, and `none` where they do not have it
pub data Looked (ds : List Declaration) (n : List ℕ) (size none r : ℕ) : Type 0 where
  found : FirstWith ds n r → Looked ds n size none r
  missing : NoneBefore ds n size → r ≡ none → Looked ds n size none r

-- the number of the name at a, if that has rank k
pub record BeforeRead (t list : List ℕ) (k a none r : ℕ) : Type 0 where
  pub of : (ds : List Declaration) (n : List ℕ) (size : ℕ) → Listed t ds list size → NameAt t a n → k ≤ size → Ranked t list size n k k → Looked ds n size none r
  pub small : none < 65536 → r < 65536

-- the name at a place is entered as that of declaration `count`
pub record Entered (t before : List ℕ) (count a : ℕ) (after : List ℕ) : Type 0 where
  pub size : length after ≡ length before
  pub of : (ds : List Declaration) (d : Declaration) → Nth ds count d → NameAt t a d.named → count < 256 → a < 65536 → Listed t ds before count
      → Listed t ds after (suc count)

-- what collecting them gives: how many there are, and their list
pub record Collected (t : List ℕ) (list : List ℕ) (count : ℕ) : Type 0 where
  pub of : (ds : List Declaration) → Items t 0 ds → length t ≤ 65536 → (count ≡ length ds) × (count ≤ 256 → Listed t ds list count)

-- the number of the name at a place
pub record NumberRead (t list : List ℕ) (count a r : ℕ) : Type 0 where
  pub of : (ds : List Declaration) (n : List ℕ) → length ds ≡ count → count ≤ 256 → Listed t ds list count → NameAt t a n → r ≡ number_of ds n

-- 22's place, or none
abbrev pub FirstMisnamed : List Declaration → Option ℕ → Type 0
FirstMisnamed ds (Some k) = Misnamed ds k × ((j : ℕ) → j < k → ¬ Misnamed ds j)
FirstMisnamed ds None = (j : ℕ) → ¬ Misnamed ds j

pub record MisnamedRead (t list : List ℕ) (count : ℕ) (r : Option ℕ) : Type 0 where
  pub of : (ds : List Declaration) → Items t 0 ds → length ds ≡ count → count ≤ 256 → Listed t ds list count → FirstMisnamed ds r
