-- Which conditions are broken, as they are asked type by type, by flags that tell below which types something is forbidden. Assumes nothing.
use Rattle.std.specs.Prelude.{ℕ, ◌≡◌, ◌⊎◌, true, List}
use Rattle.table.specs.Steps.Found.{Tells}
use Rattle.verdict.specs.Breaches.{BreachBy}
use Rattle.verdict.specs.declared.Spot.{Spot}
use Rattle.verdict.specs.declared.Condition.{Condition}
use Rattle.verdict.specs.declared.Condition.TheVariants.{InsertDelete, Chain, Cycle}
use Rattle.broken.specs.Breaks.{Breaks}
use Rattle.broken.specs.declared.Broken.{Broken}

-- some privilege breaks this condition at a spot of a type that T has; B y p says that p is forbidden below type y
pub record BreaksAt (ws marks : List ℕ) (B : ℕ → ℕ → Type 0) (T : ℕ → Type 0) (condition : Condition) : Type 0 where
  pub spot : Spot
  pub privilege : ℕ
  pub of : spot.condition ≡ condition
  pub breach : BreachBy ws marks B spot privilege
  pub here : T spot.element

-- a flag for each condition tells whether it has P
pub record Asked (P : Condition → Type 0) (r : Broken) : Type 0 where
  pub insert_delete : Tells (P InsertDelete) r.insert_delete
  pub chain : Tells (P Chain) r.chain
  pub cycle : Tells (P Cycle) r.cycle

-- a flag for each condition tells whether it was up before, or has P
pub record Added (P : Condition → Type 0) (known r : Broken) : Type 0 where
  pub insert_delete : Tells ((known.insert_delete ≡ true) ⊎ P InsertDelete) r.insert_delete
  pub chain : Tells ((known.chain ≡ true) ⊎ P Chain) r.chain
  pub cycle : Tells ((known.cycle ≡ true) ⊎ P Cycle) r.cycle

-- the conditions that the marks break somewhere
abbrev pub BrokenIn : List ℕ → List ℕ → Broken → Type 0
BrokenIn ws marks r = Asked (λ c. Breaks ws c marks) r
