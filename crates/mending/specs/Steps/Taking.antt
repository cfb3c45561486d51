-- What each part of the mend finds and takes. Assumes nothing.
use Rattle.std.specs.Prelude.{ℕ, ◌+◌, ◌≤◌, ◌<◌, ◌≡◌, ◌⊎◌, true, List, set, Option, Some, None}
use Rattle.table.specs.Words.{types}
use Rattle.table.specs.Rule.{children_at}
use Rattle.table.specs.Steps.Numbering.{NumberedAs, replace_in}
use Rattle.table.specs.declared.privilege.Numbering.{Numbering}
use Rattle.policy.specs.Marks.{Policy}
use Rattle.policy.specs.Steps.Squares.{marked, StepIn}
use Rattle.verdict.specs.Below.{ForbiddenBelow}
use Rattle.verdict.specs.Breaches.{IsBreach, FirstSpot}
use Rattle.verdict.specs.Steps.Spoils.{Flagged, Agree}
use Rattle.verdict.specs.declared.Spot.{Spot}
use Rattle.mending.specs.Mends.{Takes}

-- the flags tell below which types something is forbidden
abbrev pub Spoilt : List ℕ → List ℕ → List ℕ → Type 0
Spoilt ws marks flags = Agree ws (Flagged flags) (ForbiddenBelow ws marks)

-- the rule has been followed from m to n: c privileges were taken, each at what was the first spot
pub data Follows (ws : List ℕ) : List ℕ → List ℕ → ℕ → Type 0 where
  start : {m : List ℕ} → Follows ws m m 0
  take : {m n : List ℕ} {c : ℕ} (s : Spot) (p : ℕ) → Follows ws m n c → FirstSpot (IsBreach ws n) s → Takes ws n s p → Follows ws m (set n p 2) (c + 1)

-- no type before x has a breach
abbrev pub CleanUpTo : List ℕ → List ℕ → ℕ → Type 0
CleanUpTo ws marks x = (s : Spot) (p : ℕ) → IsBreach ws marks s p → x ≤ s.element

-- what is known where the mend visits type x
pub record Visited (ws m flags : List ℕ) (x : ℕ) (kids : List ℕ) (n : Numbering) : Type 0 where
  pub policy : Policy ws m
  pub spoilt : Spoilt ws m flags
  pub type : x < types ws
  pub clean : CleanUpTo ws m x
  pub kids_are : kids ≡ children_at ws x
  pub numbered : NumberedAs ws x n

-- what the mend of type x has done: c privileges taken by the rule, and the type has no breach
pub record Cleaned (ws flags : List ℕ) (x : ℕ) (old new : List ℕ) (c : ℕ) : Type 0 where
  pub follows : Follows ws old new c
  pub policy : Policy ws new
  pub spoilt : Spoilt ws new flags
  pub clean : CleanUpTo ws new (x + 1)

-- by the square, k leads from i to j
pub record LeadsIn (marks : List ℕ) (n : Numbering) (square : List ℕ) (i j k : ℕ) : Type 0 where
  pub step : StepIn marks n i k
  pub on : (k ≡ j) ⊎ (marked square k j ≡ true)

-- k is the lowest that leads from i to j
pub record LowestIn (marks : List ℕ) (n : Numbering) (square : List ℕ) (i j k : ℕ) : Type 0 where
  pub leads : LeadsIn marks n square i j k
  pub lowest : (l : ℕ) → l < k → ¬ LeadsIn marks n square i j l

-- p is what the rule takes next, at type x
pub record TakenAt (ws m : List ℕ) (x p : ℕ) : Type 0 where
  pub spot : Spot
  pub first : FirstSpot (IsBreach ws m) spot
  pub here : spot.element ≡ x
  pub takes : Takes ws m spot p

-- what the rule takes next at the star x, or none where x has no breach
abbrev pub StarTaken : List ℕ → List ℕ → ℕ → Option ℕ → Type 0
StarTaken ws m x (Some p) = TakenAt ws m x p
StarTaken ws m x None = CleanUpTo ws m (x + 1)

-- the replacement that the rule takes next at the choice x, or none where x has no breach
abbrev pub NextTaken : List ℕ → List ℕ → ℕ → Numbering → Option (ℕ × ℕ) → Type 0
NextTaken ws m x n (Some (i, k)) = StepIn m n i k × TakenAt ws m x (replace_in n i k)
NextTaken ws m x n None = CleanUpTo ws m (x + 1)
