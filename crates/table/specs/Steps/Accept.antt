-- What one pass over the types of a table shows, with a stamp and a count for each number below 256: its latest parent's number, and how many child
-- entries name it. Assumes nothing.
use Rattle.std.specs.Prelude.{ℕ, ◌+◌, ◌*◌, ◌≤◌, ◌<◌, ◌≡◌, List, length, get_or}
use Rattle.table.specs.Words.{entries}
use Rattle.table.specs.Steps.Counts.{occurs, Counts}
use Rattle.table.specs.Check.{Inside, Differ, Passes}
use Rattle.table.specs.declared.check.Check.TheVariants.{Kind, Count, Stretch, Bounds, Twice, Total}

-- room for stamps, and counts that t types of at most 16 children can have made
pub record Countable (t : ℕ) (stamps counts : List ℕ) : Type 0 where
  pub stamps_size : length stamps ≡ 256
  pub counts_size : length counts ≡ 256
  pub small : (x : ℕ) → x < 256 → get_or counts x 0 ≤ 16 * t

-- the children are below e and all different, and each is counted
pub record Stamped (e t : ℕ) (kids before stamps counts : List ℕ) : Type 0 where
  pub inside : Inside e kids
  pub differ : Differ kids
  pub countable : Countable (t + 1) stamps counts
  pub each : (x : ℕ) → x < 256 → get_or counts x 0 ≡ get_or before x 0 + occurs kids x (length kids)

-- as many children as word 5 says, and as many privileges as word 7 says, which are at most 4,096
pub record Totals (ws : List ℕ) (children privileges : ℕ) : Type 0 where
  pub listed : children ≡ entries ws
  pub few : privileges ≤ 4096
  pub stated : get_or ws 7 0 ≡ privileges

-- checks 3 to 7 and 9 pass, and each type's entries are counted
pub record TypesPass (ws counts : List ℕ) : Type 0 where
  pub kinds : Passes ws Kind
  pub counts_right : Passes ws Count
  pub stretches : Passes ws Stretch
  pub bounds : Passes ws Bounds
  pub twice : Passes ws Twice
  pub total : Passes ws Total
  pub counted : Counts ws counts
