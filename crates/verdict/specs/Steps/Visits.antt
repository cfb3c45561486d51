-- What is known where a search for breaches visits a type, what it finds there, and the search over pairs of positions. Assumes nothing.
use Rattle.std.specs.Prelude.{ℕ, ◌<◌, ◌≡◌, true, List, Option, Some, None}
use Rattle.table.specs.Words.{types}
use Rattle.table.specs.Rule.{children_at}
use Rattle.table.specs.declared.privilege.Numbering.{Numbering}
use Rattle.policy.specs.Marks.{Policy}
use Rattle.verdict.specs.Breaches.{CycleBreach, BreachBy, FirstSpot}
use Rattle.policy.specs.Steps.Squares.{marked, ForbiddenIn}
use Rattle.verdict.specs.declared.Spot.{Spot}
use Rattle.verdict.specs.declared.Condition.TheVariants.{InsertDelete, Cycle}

-- a type of a policy, with its children at hand
pub record Visited (ws marks : List ℕ) (x : ℕ) (kids : List ℕ) : Type 0 where
  pub policy : Policy ws marks
  pub type : x < types ws
  pub kids_are : kids ≡ children_at ws x

-- a breach of condition 1 is at one spot
abbrev pub star_spot : ℕ → Spot
star_spot x = record { condition = InsertDelete; element = x; i = 0; j = 0 }

-- the square leads from i to j, and i must not be replaced by j
pub record Broken (marks : List ℕ) (n : Numbering) (square : List ℕ) (i j : ℕ) : Type 0 where
  pub leads : marked square i j ≡ true
  pub forbidden : ForbiddenIn marks n i j

-- the first pair, by the lowest i and then the lowest j, of n positions that has P
pub record FirstAt (P : ℕ → ℕ → Type 0) (n i j : ℕ) : Type 0 where
  pub from : i < n
  pub to : j < n
  pub holds : P i j
  pub rows : (a : ℕ) → a < i → (b : ℕ) → b < n → ¬ P a b
  pub row : (b : ℕ) → b < j → ¬ P i b

abbrev pub FirstPair : (ℕ → ℕ → Type 0) → ℕ → Option (ℕ × ℕ) → Type 0
FirstPair P n (Some (i, j)) = FirstAt P n i j
FirstPair P n None = (a : ℕ) → a < n → (b : ℕ) → b < n → ¬ P a b

-- what a search finds: the first spot that is broken, or none; Breaks s p says that p breaks the spot s
abbrev pub Searched : (Spot → ℕ → Type 0) → Option Spot → Type 0
Searched Breaks (Some s) = FirstSpot Breaks s
Searched Breaks None = (t : Spot) (p : ℕ) → ¬ Breaks t p

-- p breaks the spot s, which is at type x
pub record BreachAt (ws marks : List ℕ) (B : ℕ → ℕ → Type 0) (x : ℕ) (s : Spot) (p : ℕ) : Type 0 where
  pub breach : BreachBy ws marks B s p
  pub here : s.element ≡ x

-- p breaks the spot s, which is at type x and of condition 3
pub record CycleAt (ws marks : List ℕ) (B : ℕ → ℕ → Type 0) (x : ℕ) (s : Spot) (p : ℕ) : Type 0 where
  pub of_cycle : s.condition ≡ Cycle
  pub breach : CycleBreach ws marks B s p
  pub here : s.element ≡ x
