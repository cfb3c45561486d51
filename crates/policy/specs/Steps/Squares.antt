-- A relation on the positions of a choice, kept as 16 rows of 16 bits; the steps at a choice by its numbering; and what each part of reading,
-- closing and writing does to rows. Assumes nothing.
use Rattle.std.specs.Prelude.{ℕ, ◌+◌, ◌/◌, ◌%◌, ◌^◌, ◌≤◌, ◌<◌, ◌≡◌, ◌≢◌, ◌⊎◌, Bool, true, not, ◌||◌, ◌&&◌, List, eqb, length, get_or, set}
use Rattle.table.specs.Steps.Found.{Tells}
use Rattle.table.specs.Steps.Numbering.{Small, replace_in, ReplaceableIn}
use Rattle.table.specs.declared.privilege.Numbering.{Numbering}
use Rattle.policy.specs.Marks.{Legal}

-- bit j of a word
abbrev pub bit : ℕ → ℕ → Bool
bit word j = eqb (word / 2 ^ j % 2) 1

-- rows of 16 bits hold a relation on positions: bit j of row i is 1 where it leads from i to j
abbrev pub marked : List ℕ → ℕ → ℕ → Bool
marked rows i j = bit (get_or rows i 0) j

-- the steps that rows mark between the first n positions
pub record Marked (n : ℕ) (rows : List ℕ) (i j : ℕ) : Type 0 where
  pub from : i < n
  pub to : j < n
  pub is : marked rows i j ≡ true

-- the rows tell the relation R between the first n positions
pub record Square (n : ℕ) (R : ℕ → ℕ → Type 0) (rows : List ℕ) : Type 0 where
  pub size : length rows ≡ 16
  pub tells : (i j : ℕ) → i < n → j < n → Tells (R i j) (marked rows i j)

-- there is a privilege to replace the child at i by the kind at j, and it has this mark
pub record MarkedIn (mark : ℕ) (marks : List ℕ) (n : Numbering) (i j : ℕ) : Type 0 where
  pub can : ReplaceableIn n i j
  pub is : get_or marks (replace_in n i j) 0 ≡ mark

-- the child at i may be replaced by the kind at j
abbrev pub StepIn : List ℕ → Numbering → ℕ → ℕ → Type 0
StepIn marks n i j = MarkedIn 1 marks n i j

-- the child at i must not be replaced by the kind at j
abbrev pub ForbiddenIn : List ℕ → Numbering → ℕ → ℕ → Type 0
ForbiddenIn marks n i j = MarkedIn 2 marks n i j

-- a number that is 1 where P holds, and else 0
pub data Flags (P : Type 0) (r : ℕ) : Type 0 where
  on : P → r ≡ 1 → Flags P r
  off : ¬ P → r ≡ 0 → Flags P r

-- room for the replacements of a choice
pub record Room (n : Numbering) (marks : List ℕ) : Type 0 where
  pub small : Small n
  pub room : (i j : ℕ) → ReplaceableIn n i j → replace_in n i j < length marks

-- marks of 0, 1 and 2, with room for the replacements of a choice
pub record Readable (n : Numbering) (marks : List ℕ) : Type 0 where
  pub room : Room n marks
  pub legal : (p : ℕ) → p < length marks → Legal marks p

-- a row tells P of each of the first n positions
pub record Row (n : ℕ) (P : ℕ → Type 0) (row : ℕ) : Type 0 where
  pub fits : row < 65536
  pub tells : (j : ℕ) → j < n → Tells (P j) (bit row j)

-- the mark at k of those from a place on is the one asked for
abbrev pub AskedAt : List ℕ → ℕ → ℕ → ℕ → Type 0
AskedAt marks at asked k = get_or marks (at + k) 0 ≡ asked

-- row i of both squares is read
pub record RowRead (marks : List ℕ) (n : Numbering) (i : ℕ) (allowed forbidden newAllowed newForbidden : List ℕ) : Type 0 where
  pub steps : ℕ
  pub bans : ℕ
  pub steps_tell : Row n.count (StepIn marks n i) steps
  pub bans_tell : Row n.count (ForbiddenIn marks n i) bans
  pub allowed_is : newAllowed ≡ set allowed i steps
  pub forbidden_is : newForbidden ≡ set forbidden i bans

-- one square tells what is allowed, the other what is forbidden
pub record Read (marks : List ℕ) (n : Numbering) (allowed forbidden : List ℕ) : Type 0 where
  pub steps : Square n.count (StepIn marks n) allowed
  pub bans : Square n.count (ForbiddenIn marks n) forbidden

-- a row is joined with another if it leads to k
abbrev pub RowJoined : ℕ → ℕ → ℕ → ℕ → Type 0
RowJoined k row old new = (b : ℕ) → bit new b ≡ (bit old b || (bit old k && bit row b))

-- each row that leads to k is joined with row k
pub record Joined (k : ℕ) (old new : List ℕ) : Type 0 where
  pub size : length new ≡ 16
  pub all : (a : ℕ) → a < 16 → RowJoined k (get_or old k 0) (get_or old a 0) (get_or new a 0)

-- bit k of row i is the other one, and the rest are as they were
pub record Toggled (i k : ℕ) (old new : List ℕ) : Type 0 where
  pub size : length new ≡ 16
  pub here : marked new i k ≡ not (marked old i k)
  pub rest : (a b : ℕ) → (a ≢ i) ⊎ (b ≢ k) → marked new a b ≡ marked old a b

-- a word of positions: only the first n may have their bit
abbrev pub Inside : ℕ → ℕ → Type 0
Inside n word = (q : ℕ) → bit word q ≡ true → q < n

-- the word has those of the first n positions that have P, and no others
pub record Positions (n : ℕ) (P : ℕ → Type 0) (word : ℕ) : Type 0 where
  pub inside : Inside n word
  pub tells : (p : ℕ) → p < n → Tells (P p) (bit word p)

-- two words share a position
pub record Shared (a b : ℕ) : Type 0 where
  pub at : ℕ
  pub left : bit a at ≡ true
  pub right : bit b at ≡ true

-- the lowest of count positions that two words share, or the place behind them where there is none
pub record LowestShared (a b count r : ℕ) : Type 0 where
  pub within : r ≤ count
  pub free : (q : ℕ) → q < r → ¬ ((bit a q ≡ true) × (bit b q ≡ true))
  pub here : r < count → (bit a r ≡ true) × (bit b r ≡ true)

-- the rows lead from p to a position of the word
pub record Into (n : ℕ) (rows : List ℕ) (word p : ℕ) : Type 0 where
  pub to : ℕ
  pub leads : Marked n rows p to
  pub is : bit word to ≡ true
