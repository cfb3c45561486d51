-- The lines of a listing, read into marks. Assumes nothing.
use Rattle.std.specs.Prelude.{ℕ, ◌≡◌, List, take}
use Rattle.table.specs.Words.{types}
use Rattle.table.specs.Privilege.{privileges}
use Rattle.table.specs.Check.{Accepted}
use Rattle.policy.specs.Marks.{Fit}
use Rattle.labels.specs.Steps.Booked.{label_in, Labelled}
use Rattle.listing.specs.Listing.{ListingOf}
use Rattle.listing.specs.Faults.{FirstFault}

-- a table with the labels of its types
pub record Readable (ws names starts : List ℕ) : Type 0 where
  pub accepted : Accepted ws
  pub labelled : Labelled (label_in names starts) (types ws)

-- what reading the lines answers: the first fault, or 0, with the marks whose listing they are at the front of the run
pub data LinesRead (label : ℕ → List ℕ) (ws t : List ℕ) (number place : ℕ) (marks : List ℕ) : Type 0 where
  faulty : FirstFault label ws t number place → LinesRead label ws t number place marks
  listed : number ≡ 0 → place ≡ 0 → Fit (privileges ws) (take (privileges ws) marks) → ListingOf label ws (take (privileges ws) marks) t
      → LinesRead label ws t number place marks
