-- Marks (document 01, "Privileges and marks"): a policy is V mark bytes, 0 unset, 1 allowed, 2 forbidden; and what is wrong with a run of
-- marks. Assumes nothing.
use Rattle.std.specs.Prelude.{ℕ, ◌+◌, ◌≤◌, ◌<◌, ◌≡◌, ◌≢◌, List, length, get_or}
use Rattle.table.specs.Lowest.{LowestAt}
use Rattle.table.specs.Privilege.{privileges}
use Rattle.table.specs.Check.{Accepted, TableAnswer}

abbrev pub Allowed : List ℕ → ℕ → Type 0
Allowed marks p = get_or marks p 0 ≡ 1

abbrev pub Forbidden : List ℕ → ℕ → Type 0
Forbidden marks p = get_or marks p 0 ≡ 2

abbrev pub Legal : List ℕ → ℕ → Type 0
Legal marks p = get_or marks p 0 ≤ 2

-- n keeps every mark that is set in m
abbrev pub Keeps : List ℕ → List ℕ → Type 0
Keeps m n = (p : ℕ) → get_or m p 0 ≢ 0 → get_or n p 0 ≡ get_or m p 0

-- v marks, each 0, 1 or 2
pub record Fit (v : ℕ) (marks : List ℕ) : Type 0 where
  pub size : length marks ≡ v
  pub legal : (p : ℕ) → p < v → Legal marks p

-- what is wrong with them: their length, by the number first; a mark above 2, by the next number, at the lowest such privilege
pub data Unfit (first v : ℕ) (marks : List ℕ) (number place : ℕ) : Type 0 where
  length_off : length marks ≢ v → number ≡ first → place ≡ 0 → Unfit first v marks number place
  mark_above : length marks ≡ v → number ≡ first + 1 → LowestAt (Legal marks) v place → Unfit first v marks number place

-- a table and a policy for it
pub record Policy (ws marks : List ℕ) : Type 0 where
  pub accepted : Accepted ws
  pub fit : Fit (privileges ws) marks

-- why there is none: 1 to 9 and 19 for the table, 10 and 11 for the marks
pub data NoPolicy (ws marks : List ℕ) (number place : ℕ) : Type 0 where
  table : number ≢ 0 → TableAnswer ws number place → NoPolicy ws marks number place
  marks : Accepted ws → Unfit 10 (privileges ws) marks number place → NoPolicy ws marks number place
