-- How often a type stands among children, and what the taking of types knows on its way. Assumes nothing.
use Rattle.std.specs.Prelude.{ℕ, zero, suc, ◌+◌, ◌-◌, ◌≤◌, ◌<◌, ◌≡◌, ◌≢◌, cond, List, [], ◌∷◌, eqb, length, get_or}
use Rattle.table.specs.Sum.{sum_below}
use Rattle.table.specs.Words.{types, root}
use Rattle.table.specs.Rule.{children_at, Child}
use Rattle.table.specs.Steps.Listed.{Among, Listed}

-- how many of the first n places of the list hold x
unfoldable pub occurs : List ℕ → ℕ → ℕ → ℕ
occurs list x n = sum_below (λ i. cond (eqb (get_or list i 0) x) 1 0) n

-- how often x stands among the children of y
unfoldable pub entries_of : List ℕ → ℕ → ℕ → ℕ
entries_of ws x y = occurs (children_at ws y) x (length (children_at ws y))

-- a number for each type: how many child entries name it
pub record Counts (ws counts : List ℕ) : Type 0 where
  pub size : length counts ≡ 256
  pub each : (x : ℕ) → x < types ws → get_or counts x 0 ≡ sum_below (entries_of ws x) (types ws)

-- f of y, but 0 where y stands at one of the first n places
unfoldable pub unpassed : (ℕ → ℕ) → List ℕ → ℕ → ℕ → ℕ
unpassed f order zero y = f y
unpassed f order (suc n) y = cond (eqb (get_or order n 0) y) 0 (unpassed f order n y)

-- the sum of f over the numbers below e that stand at none of the first n places
unfoldable pub unpassed_sum : ℕ → (ℕ → ℕ) → List ℕ → ℕ → ℕ
unpassed_sum e f order n = sum_below (unpassed f order n) e

-- the first n places of a list, the last of them first
unfoldable pub turned : List ℕ → ℕ → List ℕ
turned list zero = []
turned list (suc n) = get_or list n 0 ∷ turned list n

-- n types are taken, the root first and each after all its parents. A type's number is how many entries of types not passed name it: head types
-- are passed, and the first i children of the one at head. Those taken have 0, and of the others only those that are nobody's child.
pub record Taking (ws : List ℕ) (head i : ℕ) (counts taken : List ℕ) (n : ℕ) : Type 0 where
  pub passed : head ≤ n
  pub size : length counts ≡ 256
  pub listed : Listed (types ws) n taken
  pub some : 0 < n
  pub first : get_or taken 0 0 ≡ root ws
  pub parents : (k y : ℕ) → k < n → Child ws y (get_or taken k 0) → Among taken k y
  pub others : (k : ℕ) → k < n → k ≢ 0 → (y : ℕ) × Child ws y (get_or taken k 0)
  pub left : (x : ℕ) → x < types ws
      → get_or counts x 0 + occurs (children_at ws (get_or taken head 0)) x i ≡ unpassed_sum (types ws) (entries_of ws x) taken head
  pub none : (k : ℕ) → k < n → get_or counts (get_or taken k 0) 0 ≡ 0
  pub all : (x y : ℕ) → Child ws y x → get_or counts x 0 ≡ 0 → Among taken n x

-- the same of an order that is filled from its last place to its first: the types from `free` on are taken, and those from `place` on are passed
pub record Filling (ws : List ℕ) (place free : ℕ) (counts order : List ℕ) : Type 0 where
  pub size : length order ≡ 256
  pub low : free ≤ place
  pub few : place ≤ types ws
  pub taking : Taking ws (types ws - place) 0 counts (turned order (types ws)) (types ws - free)
