-- How a number enters among the leaders of those below it. Assumes nothing.
use Rattle.std.specs.Prelude.{ℕ, ◌+◌, ◌≤◌, ◌<◌, min, ◌≡◌, List, get_or}
use Rattle.leaders.specs.Leaders.{LeadersOf}

-- the leaders of the numbers below p
abbrev pub LeadersBelow : (ℕ → ℕ) → ℕ → List ℕ → Type 0
LeadersBelow often p leaders = LeadersOf p often (min 3 p) leaders

-- the leader at place k comes less often than p, if one stands there
pub record Behind (often : ℕ → ℕ) (p : ℕ) (leaders : List ℕ) (k : ℕ) : Type 0 where
  pub less : k < min 3 p → often (get_or leaders k 0) < often p

-- how often the next number must come to enter: more often than the last of three leaders, and 0 times where there are fewer
pub record Bar (often : ℕ → ℕ) (p : ℕ) (leaders : List ℕ) (bar : ℕ) : Type 0 where
  pub few : p < 3 → bar ≡ 0
  pub full : 3 ≤ p → bar ≡ often (get_or leaders 2 0) + 1
