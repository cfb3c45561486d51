-- The lines of a policy, put into a run of bytes. Assumes nothing.
use Rattle.std.specs.Prelude.{ℕ, List}
use Rattle.table.specs.Words.{types}
use Rattle.table.specs.Privilege.{privileges}
use Rattle.table.specs.Check.{Accepted}
use Rattle.policy.specs.Marks.{Fit}
use Rattle.runs.specs.Putting.{Fits}
use Rattle.labels.specs.Steps.Booked.{label_in, Labelled}
use Rattle.listing.specs.Listing.{ListingOf}

-- a table with the labels of its types, and a policy for it
pub record Mailable (ws names starts marks : List ℕ) : Type 0 where
  pub accepted : Accepted ws
  pub labelled : Labelled (label_in names starts) (types ws)
  pub fit : Fit (privileges ws) marks

-- the listing stands at the front of the run, if there is room for it, and r is its length
pub record LinesPut (label : ℕ → List ℕ) (ws marks before after : List ℕ) (r : ℕ) : Type 0 where
  pub lines : List ℕ
  pub lists : ListingOf label ws marks lines
  pub fits : Fits lines before 0 after r
