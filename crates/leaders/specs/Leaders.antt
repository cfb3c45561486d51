-- "The three privileges allowed in most roles (the lower number first among equals; all of them if V is under three)" (document 02, order 12). Assumes
-- nothing.
use Rattle.std.specs.Prelude.{ℕ, ◌*◌, ◌≤◌, ◌<◌, min, ◌≡◌, ◌≢◌, List, length, get_or}

-- p is ahead of q: it comes more often, or they come as often and p is the lower number
pub data Ahead (often : ℕ → ℕ) (p q : ℕ) : Type 0 where
  more : often q < often p → Ahead often p q
  lower : often p ≡ often q → p < q → Ahead often p q

-- of the numbers below v the three that are ahead, or all of them if they are fewer: one behind the other, and all others behind them; 0 in unused places
pub record LeadersOf (v : ℕ) (often : ℕ → ℕ) (count : ℕ) (leaders : List ℕ) : Type 0 where
  pub size : length leaders ≡ 3
  pub many : count ≡ min 3 v
  pub inside : (k : ℕ) → k < count → get_or leaders k 0 < v
  pub order : (j k : ℕ) → j < k → k < count → Ahead often (get_or leaders j 0) (get_or leaders k 0)
  pub others : (p k : ℕ) → p < v → k < count → ((j : ℕ) → j < count → get_or leaders j 0 ≢ p) → Ahead often (get_or leaders k 0) p
  pub unused : (k : ℕ) → count ≤ k → get_or leaders k 0 ≡ 0

-- how often privilege p is allowed, by a run that holds three numbers for each privilege, of which the first counts that
abbrev pub often_of : List ℕ → ℕ → ℕ
often_of counts p = get_or counts (3 * p) 0
