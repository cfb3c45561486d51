-- Entries written one after another along the order. Assumes nothing.
use Rattle.std.specs.Prelude.{ℕ, ◌+◌, ◌*◌, ◌≤◌, ◌<◌, ◌≡◌, ◌≢◌, List, length, get_or}
use Rattle.table.specs.Words.{types}
use Rattle.verdict.specs.Below.{ForbiddenTally}
use Rattle.verdict.specs.declared.below.Tally.{Tally}
use Rattle.verdict.specs.Kept.{entry_of}

-- the entry of type t is r, and all other words are as they were
pub record Entered (t : ℕ) (r : Tally) (kept after : List ℕ) : Type 0 where
  pub size : length after ≡ length kept
  pub entry : entry_of after t ≡ r
  pub others : (k : ℕ) → k ≢ 2 * t → k ≢ 2 * t + 1 → get_or after k 0 ≡ get_or kept k 0

-- the first n words are 0
abbrev pub Blank : ℕ → List ℕ → Type 0
Blank n kept = (k : ℕ) → k < n → get_or kept k 0 ≡ 0

-- the entries of the types above that stand from one place up to another are those of the marks, and all other words are as they were
pub record Written (ws marks order above : List ℕ) (from until : ℕ) (kept after : List ℕ) : Type 0 where
  pub size : length after ≡ length kept
  pub done : (k : ℕ) → from ≤ k → k < until → get_or above (get_or order k 0) 0 ≡ 1 → ForbiddenTally ws marks (get_or order k 0) (entry_of after (get_or order k 0))
  pub others : (t : ℕ) → t < types ws → ((k : ℕ) → from ≤ k → k < until → get_or order k 0 ≡ t → get_or above t 0 ≢ 1) → entry_of after t ≡ entry_of kept t
  pub rest : (k : ℕ) → 2 * types ws ≤ k → get_or after k 0 ≡ get_or kept k 0
