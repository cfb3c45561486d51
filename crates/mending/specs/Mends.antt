-- Mending (document 01, "Completing and mending"; document 02, order 9): the stated rule and nothing else. While there is a breach, take the first. For
-- condition 1, forbid the delete if insert and delete are both allowed, otherwise the exchange. For 2 and 3, forbid the replacement of i by the lowest k
-- such that it is allowed and k is j or j is reached from k. Assumes nothing.
use Rattle.std.specs.Prelude.{ℕ, suc, ◌<◌, ◌≡◌, ◌⊎◌, List, set}
use Rattle.table.specs.Privilege.{delete_of, exchange_of, replace_of}
use Rattle.policy.specs.Marks.{Allowed}
use Rattle.policy.specs.Reached.{Step, Reached}
use Rattle.policy.specs.Renewed.{Both}
use Rattle.verdict.specs.Conditions.{Clean}
use Rattle.verdict.specs.Breaches.{IsBreach, FirstSpot}
use Rattle.verdict.specs.declared.Spot.{Spot}
use Rattle.verdict.specs.declared.Condition.{Condition}
use Rattle.verdict.specs.declared.Condition.TheVariants.{None, InsertDelete, Chain, Cycle}

-- k leads from i to j: replacing i by k is allowed, and k is j or j is reached from k
pub record Leads (ws marks : List ℕ) (x i j k : ℕ) : Type 0 where
  pub step : Step ws (Allowed marks) x i k
  pub on : (k ≡ j) ⊎ Reached ws (Allowed marks) x k j

-- p is the replacement of i by the lowest such k
pub record LowestLead (ws marks : List ℕ) (x i j p : ℕ) : Type 0 where
  pub k : ℕ
  pub leads : Leads ws marks x i j k
  pub lowest : (l : ℕ) → l < k → ¬ Leads ws marks x i j l
  pub is : p ≡ replace_of ws x i k

-- p is the delete of the star x if insert and delete are both allowed, otherwise the exchange
pub data StarTakes (ws marks : List ℕ) (x p : ℕ) : Type 0 where
  delete : Both ws (Allowed marks) x → p ≡ delete_of ws x → StarTakes ws marks x p
  exchange : ¬ Both ws (Allowed marks) x → p ≡ exchange_of ws x → StarTakes ws marks x p

-- p is what the rule forbids at a breach of this condition at the spot s
abbrev pub TakesFor : List ℕ → List ℕ → Condition → Spot → ℕ → Type 0
TakesFor ws marks None s p = ⊥
TakesFor ws marks InsertDelete s p = StarTakes ws marks s.element p
TakesFor ws marks Chain s p = LowestLead ws marks s.element s.i s.j p
TakesFor ws marks Cycle s p = LowestLead ws marks s.element s.i s.j p

abbrev pub Takes : List ℕ → List ℕ → Spot → ℕ → Type 0
Takes ws marks s p = TakesFor ws marks s.condition s p

-- mending m gives n, and takes c privileges away
pub data Mends (ws : List ℕ) : List ℕ → List ℕ → ℕ → Type 0 where
  done : {m : List ℕ} → Clean ws m → Mends ws m m 0
  more : {m n : List ℕ} {c : ℕ} (s : Spot) (p : ℕ) → FirstSpot (IsBreach ws m) s → Takes ws m s p → Mends ws (set m p 2) n c → Mends ws m n (suc c)
