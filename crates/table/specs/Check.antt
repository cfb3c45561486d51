-- "Each answer has a number and a place. Checks run in number order; the place is the lowest at which that check fails, and 0 where none is named"
-- (document 01, "Numbers of the answers and their order", with its table of numbers, and "The schema table"); 19 "stands between 7 and 8" (document
-- 02, order 2), so the order of the checks is a rank of its own; "1 now means word 0 is neither 1 nor 2" (order 9). Assumes nothing.
use Rattle.std.specs.Prelude.{ℕ, ◌+◌, ◌*◌, ◌≤◌, ◌<◌, ◌≡◌, ◌≢◌, ◌⊎◌, List, length, get_or}
use Rattle.table.specs.Lowest.{LowestAt}
use Rattle.table.specs.Words.{format_of, types, entries, root, kind_at, count_at, first_at, running}
use Rattle.table.specs.Rule.{children_at}
use Rattle.table.specs.Below.{OffCycle, FromRoot}
use Rattle.table.specs.Privilege.{privileges}
use Rattle.table.specs.declared.check.Check.{Check}
use Rattle.table.specs.declared.check.Check.TheVariants.{Format, Layout, Kind, Count, Stretch, Bounds, Twice, Cycle, Unreached, Total}

-- 1: at least 8 words, and word 0 is 1 or 2
pub record Headed (ws : List ℕ) : Type 0 where
  pub long : 8 ≤ length ws
  pub format : (format_of ws ≡ 1) ⊎ (format_of ws ≡ 2)

-- 2: words 1 to 6 are as the header says, and the run is as long as word 1
pub record Laid (ws : List ℕ) : Type 0 where
  pub some : 1 ≤ types ws
  pub few : types ws ≤ 256
  pub root_inside : root ws < types ws
  pub records : get_or ws 4 0 ≡ 8
  pub short : entries ws ≤ 1024
  pub list : get_or ws 6 0 ≡ 8 + 3 * types ws
  pub size : get_or ws 1 0 ≡ 8 + 3 * types ws + entries ws
  pub lent : length ws ≡ get_or ws 1 0

-- 4: empty and text have no child, sequence and choice have 1 to 16, star has one
pub record RightCount (kind count : ℕ) : Type 0 where
  pub empty : kind ≡ 0 → count ≡ 0
  pub text : kind ≡ 1 → count ≡ 0
  pub sequence : kind ≡ 2 → (1 ≤ count) × (count ≤ 16)
  pub choice : kind ≡ 3 → (1 ≤ count) × (count ≤ 16)
  pub star : kind ≡ 4 → count ≡ 1

-- 5: a type's first child is the running index; past the last type that index is C
pub record Follows (ws : List ℕ) (t : ℕ) : Type 0 where
  pub first : t < types ws → first_at ws t ≡ running ws t
  pub total : t ≡ types ws → running ws t ≡ entries ws

-- 6: a child's number is below E
abbrev pub Inside : ℕ → List ℕ → Type 0
Inside e kids = (i : ℕ) → i < length kids → get_or kids i 0 < e

-- 7: children are all different
abbrev pub Differ : List ℕ → Type 0
Differ kids = (i j : ℕ) → i < j → j < length kids → get_or kids i 0 ≢ get_or kids j 0

-- 9: V is at most 4,096 and is word 7
pub record Counted (ws : List ℕ) : Type 0 where
  pub few : privileges ws ≤ 4096
  pub stated : get_or ws 7 0 ≡ privileges ws

-- what a check asks at each of its places
abbrev pub Holds : List ℕ → Check → ℕ → Type 0
Holds ws Format p = Headed ws
Holds ws Layout p = Laid ws
Holds ws Kind t = kind_at ws t ≤ 4
Holds ws Count t = RightCount (kind_at ws t) (count_at ws t)
Holds ws Stretch t = Follows ws t
Holds ws Bounds t = Inside (types ws) (children_at ws t)
Holds ws Twice t = Differ (children_at ws t)
Holds ws Cycle t = OffCycle ws t
Holds ws Unreached t = FromRoot ws t
Holds ws Total p = Counted ws

-- its places in a table of e types: the types; place E too for the total of check 5; place 0 alone where none is named
abbrev pub places_in : ℕ → Check → ℕ
places_in e Format = 1
places_in e Layout = 1
places_in e Kind = e
places_in e Count = e
places_in e Stretch = e + 1
places_in e Bounds = e
places_in e Twice = e
places_in e Cycle = e
places_in e Unreached = e
places_in e Total = 1

abbrev pub places_of : List ℕ → Check → ℕ
places_of ws check = places_in (types ws) check

-- its number
abbrev pub number_of : Check → ℕ
number_of Format = 1
number_of Layout = 2
number_of Kind = 3
number_of Count = 4
number_of Stretch = 5
number_of Bounds = 6
number_of Twice = 7
number_of Cycle = 19
number_of Unreached = 8
number_of Total = 9

-- its place in the order of the checks: 19 stands between 7 and 8
abbrev pub rank_of : Check → ℕ
rank_of Format = 1
rank_of Layout = 2
rank_of Kind = 3
rank_of Count = 4
rank_of Stretch = 5
rank_of Bounds = 6
rank_of Twice = 7
rank_of Cycle = 8
rank_of Unreached = 9
rank_of Total = 10

abbrev pub Passes : List ℕ → Check → Type 0
Passes ws check = (p : ℕ) → p < places_of ws check → Holds ws check p

-- the checks before it pass
abbrev pub Earlier : List ℕ → Check → Type 0
Earlier ws check = (c : Check) → rank_of c < rank_of check → Passes ws c

-- a check is the first that fails, and place is the lowest at which it does
pub record Refused (ws : List ℕ) (check : Check) (place : ℕ) : Type 0 where
  pub earlier : Earlier ws check
  pub lowest : LowestAt (Holds ws check) (places_of ws check) place

-- the words are a table
pub record Accepted (ws : List ℕ) : Type 0 where
  pub passes : (check : Check) → Passes ws check

-- the answer's number and place
pub data TableAnswer (ws : List ℕ) (number place : ℕ) : Type 0 where
  refused : (check : Check) → number ≡ number_of check → Refused ws check place → TableAnswer ws number place
  accepted : number ≡ 0 → place ≡ privileges ws → Accepted ws → TableAnswer ws number place
