-- Which types a type is below, a byte for each, and where it stands in the order. Assumes nothing.
use Rattle.std.specs.Prelude.{ℕ, ◌<◌, ◌≡◌, List, eqb, length, get_or}
use Rattle.table.specs.Words.{types}
use Rattle.table.specs.Below.{Below}
use Rattle.table.specs.Steps.Found.{Tells}

-- type x stands at place k of the order
pub record StandsAt (ws order : List ℕ) (x k : ℕ) : Type 0 where
  pub within : k < types ws
  pub is : get_or order k 0 ≡ x

-- a byte for each type: 1 exactly if x is below it
pub record Aboves (ws : List ℕ) (x : ℕ) (above : List ℕ) : Type 0 where
  pub size : length above ≡ 256
  pub each : (t : ℕ) → t < types ws → Tells (Below ws x t) (eqb (get_or above t 0) 1)
