-- Lines that follow on those of the privileges before. Assumes nothing.
use Rattle.std.specs.Prelude.{ℕ, ◌+◌, ◌*◌, ◌≤◌, List, ◌++◌, length}
use Rattle.runs.specs.Putting.{Fits}
use Rattle.listing.specs.Listing.{Lists}

-- the lines of the set privileges from a up to b stand at a place, if there is room for them, and r is the place behind them; a line has at most 109 bytes
pub record Continues (label : ℕ → List ℕ) (ws marks : List ℕ) (a b : ℕ) (before : List ℕ) (at : ℕ) (after : List ℕ) (r : ℕ) : Type 0 where
  pub part : List ℕ
  pub more : (lines : List ℕ) → Lists label ws marks a lines → Lists label ws marks b (lines ++ part)
  pub short : length part + 109 * a ≤ 109 * b
  pub fits : Fits part before at after r
