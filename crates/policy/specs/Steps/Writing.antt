-- What writing decided marks writes. Assumes nothing.
use Rattle.std.specs.Prelude.{ℕ, ◌≤◌, ◌<◌, ◌≡◌, ◌≢◌, ◌⊎◌, Bool, true, false, List, length, get_or}
use Rattle.table.specs.Steps.Numbering.{replace_in, ReplaceableIn}
use Rattle.table.specs.declared.privilege.Numbering.{Numbering}
use Rattle.policy.specs.Steps.Squares.{marked}

-- a mark: allowed if P holds, else forbidden
pub data Decision (P : Type 0) (mark : ℕ) : Type 0 where
  allow : P → mark ≡ 1 → Decision P mark
  forbid : ¬ P → mark ≡ 2 → Decision P mark

abbrev pub decision : Bool → ℕ
decision true = 1
decision false = 2

-- the marks from one number up to another are decided by P, and the rest is as it was
pub record RangeWritten (P : ℕ → Type 0) (from until : ℕ) (old new : List ℕ) : Type 0 where
  pub size : length new ≡ length old
  pub within : (p : ℕ) → from ≤ p → p < until → Decision (P p) (get_or new p 0)
  pub rest : (p : ℕ) → (p < from) ⊎ (until ≤ p) → get_or new p 0 ≡ get_or old p 0

-- the replacements of row i, or of all rows, are decided by the square, and the rest is as it was
pub record RowWritten (n : Numbering) (square : List ℕ) (i : ℕ) (old new : List ℕ) : Type 0 where
  pub size : length new ≡ length old
  pub row : (j : ℕ) → ReplaceableIn n i j → Decision (marked square i j ≡ true) (get_or new (replace_in n i j) 0)
  pub rest : (p : ℕ) → ((j : ℕ) → ReplaceableIn n i j → p ≢ replace_in n i j) → get_or new p 0 ≡ get_or old p 0

pub record ChoiceWritten (n : Numbering) (square old new : List ℕ) : Type 0 where
  pub size : length new ≡ length old
  pub all : (i j : ℕ) → ReplaceableIn n i j → Decision (marked square i j ≡ true) (get_or new (replace_in n i j) 0)
  pub rest : (p : ℕ) → ((i j : ℕ) → ReplaceableIn n i j → p ≢ replace_in n i j) → get_or new p 0 ≡ get_or old p 0
