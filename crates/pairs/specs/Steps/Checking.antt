-- What checking a pair of maps answers, and a table with its pair. Assumes nothing.
use Rattle.std.specs.Prelude.{ℕ, ◌≡◌, List}
use Rattle.table.specs.Privilege.{privileges}
use Rattle.table.specs.Steps.Order.{BottomUp}
use Rattle.pairs.specs.Maps.{Maps, Paired, Unpaired, MapPolicy, NoMaps}

-- what checking a pair answers
pub data PairAnswer (off both spare v : ℕ) (m : Maps) (number place : ℕ) : Type 0 where
  unpaired : Unpaired off both spare v m number place → PairAnswer off both spare v m number place
  paired : Paired v m → number ≡ 0 → place ≡ 0 → PairAnswer off both spare v m number place

-- what checking both answers: number 0 and V, or why not
pub data MapsAnswer (ws : List ℕ) (m : Maps) (number place : ℕ) : Type 0 where
  refused : NoMaps ws m number place → MapsAnswer ws m number place
  fits : MapPolicy ws m → number ≡ 0 → place ≡ privileges ws → MapsAnswer ws m number place

-- and where there is a policy, the order of the types
pub record OrderedMaps (ws : List ℕ) (m : Maps) (order : List ℕ) (number place : ℕ) : Type 0 where
  pub answer : MapsAnswer ws m number place
  pub up : number ≡ 0 → BottomUp ws order
