-- What is forbidden in some types, counted stretch by stretch of their privileges. Assumes nothing.
use Rattle.std.specs.Prelude.{ℕ, ◌+◌, ◌≤◌, ◌<◌, ◌≡◌, ◌≢◌, List, get_or}
use Rattle.table.specs.HowMany.{HowMany}
use Rattle.table.specs.Privilege.{Belongs}
use Rattle.policy.specs.Marks.{Forbidden}
use Rattle.verdict.specs.Steps.Spoils.{Range}
use Rattle.verdict.specs.declared.below.Tally.{Tally}

-- the lowest forbidden privilege from a number on
pub record LowestFrom (marks : List ℕ) (from r : ℕ) : Type 0 where
  pub low : from ≤ r
  pub forbidden : Forbidden marks r
  pub least : (q : ℕ) → from ≤ q → Forbidden marks q → r ≤ q

-- privilege p stands from one number up to another and is forbidden, and the flag is 1
pub record Counted (marks : List ℕ) (from until flag p : ℕ) : Type 0 where
  pub flagged : flag ≡ 1
  pub range : Range marks from until p

-- those of a stretch come behind what was counted before: none, the first, or more
pub data Added (marks : List ℕ) (from until flag : ℕ) (before r : Tally) : Type 0 where
  none : ((q : ℕ) → ¬ Counted marks from until flag q) → r ≡ before → Added marks from until flag before r
  first : before.count ≡ 0 → flag ≡ 1 → r.lowest < until → LowestFrom marks from r.lowest → HowMany (Range marks from until) until r.count
      → Added marks from until flag before r
  more : {k : ℕ} → before.count ≢ 0 → flag ≡ 1 → HowMany (Range marks from until) until k → r.lowest ≡ before.lowest → r.count ≡ before.count + k
      → Added marks from until flag before r

-- privilege p is of a type with the flag 1, and forbidden
pub record ForbiddenAmong (ws marks flags : List ℕ) (p : ℕ) : Type 0 where
  pub type : ℕ
  pub belongs : Belongs ws p type
  pub flagged : get_or flags type 0 ≡ 1
  pub forbidden : Forbidden marks p
