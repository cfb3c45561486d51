-- "Keep for each type t what order 8's question answers, as 16-bit words 2t and 2t + 1. A call writes one mark, and only entries of types that its
-- privilege is below" (document 02, order 11). Assumes nothing.
use Rattle.std.specs.Prelude.{ℕ, ◌*◌, ◌≤◌, ◌<◌, ◌≡◌, List, length, get_or}
use Rattle.table.specs.Words.{types}
use Rattle.verdict.specs.Below.{PrivilegeBelow, ForbiddenTally}
use Rattle.verdict.specs.Kept.{entry_of}

-- the entries are those of the marks: each is what the question answers
pub record Entries (ws marks kept : List ℕ) : Type 0 where
  pub each : (t : ℕ) → t < types ws → ForbiddenTally ws marks t (entry_of kept t)

-- the entries of the types that privilege p is below are those of the marks, and all other words are as they were
pub record Renewed (ws marks : List ℕ) (p : ℕ) (kept after : List ℕ) : Type 0 where
  pub size : length after ≡ length kept
  pub above : (t : ℕ) → t < types ws → PrivilegeBelow ws p t → ForbiddenTally ws marks t (entry_of after t)
  pub others : (t : ℕ) → t < types ws → ¬ PrivilegeBelow ws p t → entry_of after t ≡ entry_of kept t
  pub rest : (k : ℕ) → 2 * types ws ≤ k → get_or after k 0 ≡ get_or kept k 0
