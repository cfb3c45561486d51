-- An order of the types in which every type comes after its children. Assumes nothing.
use Rattle.std.specs.Prelude.{ℕ, ◌<◌, ◌≡◌, List, get_or}
use Rattle.table.specs.Words.{types}
use Rattle.table.specs.Rule.{Child}

pub record BottomUp (ws order : List ℕ) : Type 0 where
  pub inside : (k : ℕ) → k < types ws → get_or order k 0 < types ws
  pub every : (x : ℕ) → x < types ws → (k : ℕ) × (k < types ws) × (get_or order k 0 ≡ x)
  pub once : (j k : ℕ) → j < types ws → k < types ws → get_or order j 0 ≡ get_or order k 0 → j ≡ k
  pub after : (j k : ℕ) → j < types ws → k < types ws → Child ws (get_or order k 0) (get_or order j 0) → j < k
