-- The replacements at a type, by the kinds they name: those of a choice, and the exchange of a star, which replaces its child by its child. And where the kinds
-- of an old type stand among those of a new one. Assumes nothing.
use Rattle.std.specs.Prelude.{ℕ, ◌+◌, ◌-◌, ◌*◌, ◌≤◌, ◌<◌, ◌≡◌, ◌≢◌, cond, List, Option, Some, None, ltb, length, get_or}
use Rattle.table.specs.Rule.{IsChoice, IsStar}
use Rattle.table.specs.Privilege.{gap_of, exchange_of}
use Rattle.table.specs.Steps.Numbering.{NumberedAs, Small, replace_in, row_in, missing_in, ReplaceableIn}
use Rattle.table.specs.declared.privilege.Numbering.{Numbering}
use Rattle.carry.specs.Numbers.{new_number}
use Rattle.carry.specs.declared.replaced.Row.{Row}

-- a row of at most 16 kinds, from a low number on
pub record SmallRow (row : Row) : Type 0 where
  pub low : row.first < 8192
  pub few : row.count ≤ 16

-- how the replacements at type x are numbered
pub data ReplacesAs (ws : List ℕ) (x : ℕ) (n : Numbering) : Type 0 where
  choice : IsChoice ws x → NumberedAs ws x n → ReplacesAs ws x n
  star : IsStar ws x → Small n → n.first ≡ exchange_of ws x → n.count ≡ 1 → n.gap ≡ gap_of ws → ReplacesAs ws x n
  none : ¬ IsChoice ws x → ¬ IsStar ws x → Small n → n.count ≡ 0 → ReplacesAs ws x n

-- the row of the child at i: its first privilege, the position that is missing in it, and how many kinds there are
pub record RowAs (n : Numbering) (i : ℕ) (row : Row) : Type 0 where
  pub first : row.first ≡ row_in n i
  pub gap : row.gap ≡ missing_in n i
  pub count : row.count ≡ n.count
  pub small : SmallRow row

-- the replacement by the kind at j of a row is the privilege p
pub record StandsAt (row : Row) (j p : ℕ) : Type 0 where
  pub inside : j < row.count
  pub other : j ≢ row.gap
  pub is : p ≡ row.first + cond (ltb j row.gap) j (j - 1)

abbrev pub ReplacedBy : Row → ℕ → Option ℕ → Type 0
ReplacedBy row j (Some p) = StandsAt row j p
ReplacedBy row j None = (p : ℕ) → ¬ StandsAt row j p

-- there is room for a row's replacements
pub record RowRoom (row : Row) (marks : List ℕ) : Type 0 where
  pub small : SmallRow row
  pub room : (j p : ℕ) → StandsAt row j p → p < length marks

-- the replacement by the kind at j of one row, and that by the kind at k of another
pub record BothStand (from to : Row) (j k p q : ℕ) : Type 0 where
  pub old : StandsAt from j p
  pub new : StandsAt to k q

-- where type c stands among the first n kids; n if it is none of them
pub data Place (kids : List ℕ) (n c r : ℕ) : Type 0 where
  there : r < n → get_or kids r 0 ≡ c → Place kids n c r
  nowhere : r ≡ n → ((k : ℕ) → k < n → get_or kids k 0 ≢ c) → Place kids n c r

-- where the new numbers of the first n kids stand among the first m others
abbrev pub Places : List ℕ → ℕ → List ℕ → List ℕ → ℕ → List ℕ → Type 0
Places kids n numbers others m at = (i : ℕ) → i < n → Place others m (new_number numbers (get_or kids i 0)) (get_or at i 0)

-- the replacements are numbered alike, and each kind has the place that it had
pub record Alike (from to : Numbering) (at : List ℕ) : Type 0 where
  pub count : from.count ≡ to.count
  pub gap : from.gap ≡ to.gap
  pub same : (i : ℕ) → i < from.count → get_or at i 0 ≡ i

-- how many there are
abbrev pub replacements_in : Numbering → ℕ
replacements_in n = n.count * (n.count - n.gap)

-- which positions are asked for: row i; the rows up to i
abbrev pub InRow : ℕ → ℕ → ℕ → Type 0
InRow i a b = a ≡ i

abbrev pub RowsTo : ℕ → ℕ → ℕ → Type 0
RowsTo i a b = a < i

-- replacements p and q, by these places; Within tells which of the old positions are asked for
pub record Replaces (from to : Numbering) (at : List ℕ) (Within : ℕ → ℕ → Type 0) (p q : ℕ) : Type 0 where
  pub i : ℕ
  pub j : ℕ
  pub within : Within i j
  pub old : ReplaceableIn from i j
  pub old_is : p ≡ replace_in from i j
  pub new : ReplaceableIn to (get_or at i 0) (get_or at j 0)
  pub new_is : q ≡ replace_in to (get_or at i 0) (get_or at j 0)
