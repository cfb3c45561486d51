-- Eight marks as one number, two bits for each, and the bits that are gathered of it; marks one by one; a row of bits with a gap opened at a position, or
-- closed. Assumes nothing.
use Rattle.std.specs.Prelude.{ℕ, suc, ◌+◌, ◌*◌, ◌/◌, ◌%◌, ◌≤◌, ◌<◌, ◌≡◌, false, List, get_or}
use Rattle.table.specs.Steps.Found.{Tells}
use Rattle.policy.specs.Steps.Squares.{bit, AskedAt}

-- four marks from a place on, a byte for each
abbrev pub four_at : List ℕ → ℕ → ℕ
four_at marks at = get_or marks at 0 + 256 * get_or marks (at + 1) 0 + 65536 * get_or marks (at + 2) 0 + 16777216 * get_or marks (at + 3) 0

-- where the two bits of the mark at k of eight stand: a byte for each of the first four, whose upper half has one of the second four
abbrev pub place_of : ℕ → ℕ
place_of k = 8 * (k % 4) + 4 * (k / 4)

-- of the eight marks from a place on, the lower bit tells which are 1, and the upper one which are 2
pub record Eight (marks : List ℕ) (at r : ℕ) : Type 0 where
  pub small : r < 4294967296
  pub ones : (k : ℕ) → k < 8 → Tells (get_or marks (at + k) 0 ≡ 1) (bit r (place_of k))
  pub twos : (k : ℕ) → k < 8 → Tells (get_or marks (at + k) 0 ≡ 2) (bit r (place_of k + 1))

-- the bits at the places of eight marks, side by side
pub record Gathered (eight r : ℕ) : Type 0 where
  pub small : r < 256
  pub bits : (k : ℕ) → k < 8 → bit r k ≡ bit eight (place_of k)

-- the same of two eights
pub record Sixteen (first second r : ℕ) : Type 0 where
  pub small : r < 65536
  pub low : (k : ℕ) → k < 8 → bit r k ≡ bit first (place_of k)
  pub high : (k : ℕ) → k < 8 → bit r (8 + k) ≡ bit second (place_of k)

-- some marks from a place on: the lower sixteen bits tell which are 1, and the upper ones which are 2
pub record Flagged (marks : List ℕ) (at size r : ℕ) : Type 0 where
  pub ones : (k : ℕ) → k < size → Tells (AskedAt marks at 1 k) (bit r k)
  pub twos : (k : ℕ) → k < size → Tells (AskedAt marks at 2 k) (bit (r / 65536) k)

-- a row: the first `width` of the bits side by side, but for a 0 put in at position i, if they are as many
pub record Opened (width i bits row : ℕ) : Type 0 where
  pub fits : row < 65536
  pub before : (j : ℕ) → j < i → j < width → bit row j ≡ bit bits j
  pub here : bit row i ≡ false
  pub behind : (j : ℕ) → i ≤ j → j < width → bit row (suc j) ≡ bit bits j

-- the bits of a row but the one at i, side by side
pub record Closed (i row bits : ℕ) : Type 0 where
  pub before : (j : ℕ) → j < i → bit bits j ≡ bit row j
  pub behind : (j : ℕ) → i ≤ j → bit bits j ≡ bit row (suc j)
