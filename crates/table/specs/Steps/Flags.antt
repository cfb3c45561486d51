-- Types marked by a byte and listed, each once. Assumes nothing.
use Rattle.std.specs.Prelude.{ℕ, ◌≤◌, ◌<◌, ◌≡◌, List, eqb, length, get_or}
use Rattle.table.specs.Steps.Found.{Tells}
use Rattle.table.specs.Words.{types}
use Rattle.table.specs.Steps.Listed.{Among, Listed}
use Rattle.table.specs.Below.{Below, FromRoot}
use Rattle.table.specs.Check.{Holds, places_of, Earlier}
use Rattle.table.specs.declared.check.Check.{Check}
use Rattle.table.specs.declared.check.Check.TheVariants.{Unreached}

-- the marked numbers are the n that are listed
pub record Flags (n : ℕ) (marks order : List ℕ) : Type 0 where
  pub size : length marks ≡ 256
  pub listed : Listed 256 n order
  pub yes : (k : ℕ) → k < n → get_or marks (get_or order k 0) 0 ≡ 1
  pub only : (x : ℕ) → x < 256 → get_or marks x 0 ≡ 1 → Among order n x

-- the kids are marked; what was listed stays, and only kids are added
pub record Added (kids marks order : List ℕ) (n : ℕ) (marks-after order-after : List ℕ) (r : ℕ) : Type 0 where
  pub flags : Flags r marks-after order-after
  pub more : n ≤ r
  pub kept : (k : ℕ) → k < n → get_or order-after k 0 ≡ get_or order k 0
  pub stay : (x : ℕ) → x < 256 → get_or marks x 0 ≡ 1 → get_or marks-after x 0 ≡ 1
  pub added : (k : ℕ) → n ≤ k → k < r → Among kids (length kids) (get_or order-after k 0)
  pub all : (i : ℕ) → i < length kids → get_or marks-after (get_or kids i 0) 0 ≡ 1

-- x is below one of the types of a list
pub record BelowOne (ws list : List ℕ) (x : ℕ) : Type 0 where
  pub at : ℕ
  pub within : at < length list
  pub below : Below ws x (get_or list at 0)

-- a byte for each type: 1 exactly if it is below one of the types of the list
pub record MarksBelow (ws list marks : List ℕ) : Type 0 where
  pub each : (x : ℕ) → x < types ws → Tells (BelowOne ws list x) (eqb (get_or marks x 0) 1)

-- for check 8, a byte for each type: 1 exactly if it is reached from the root
abbrev pub MarkedFor : List ℕ → Check → List ℕ → Type 0
MarkedFor ws check reached = check ≡ Unreached → (x : ℕ) → x < types ws → Tells (FromRoot ws x) (eqb (get_or reached x 0) 1)

-- what is known where a check looks at place p
pub record Asked (ws reached : List ℕ) (check : Check) (p : ℕ) : Type 0 where
  pub earlier : Earlier ws check
  pub marked : MarkedFor ws check reached
  pub within : p < places_of ws check
  pub before : (q : ℕ) → q < p → Holds ws check q
