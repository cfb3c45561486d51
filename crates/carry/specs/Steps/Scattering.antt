-- Moving marks from old privileges to new ones, by a relation between them: what both results hold then, by what they held before. Assumes nothing.
use Rattle.std.specs.Prelude.{ℕ, zero, suc, ◌+◌, ◌<◌, ◌≡◌, List, length, get_or}

-- a new mark, From being the old privileges that are moved to it
pub data MarkMoved (From : ℕ → Type 0) (marks : List ℕ) (old new : ℕ) : Type 0 where
  moved : (p : ℕ) → From p → new ≡ get_or marks p 0 → MarkMoved From marks old new
  unmoved : ((p : ℕ) → ¬ From p) → new ≡ old → MarkMoved From marks old new

-- the byte of an old privilege, To being the new ones that it is moved to
pub data ByteMoved (To : ℕ → Type 0) (old new : ℕ) : Type 0 where
  found : (q : ℕ) → To q → new ≡ 0 → ByteMoved To old new
  unfound : ((q : ℕ) → ¬ To q) → new ≡ old → ByteMoved To old new

-- the marks of the old privileges are moved where R leads
pub record Scattered (R : ℕ → ℕ → Type 0) (marks out lost newOut newLost : List ℕ) : Type 0 where
  pub out_size : length newOut ≡ length out
  pub lost_size : length newLost ≡ length lost
  pub marks_at : (q : ℕ) → MarkMoved (λ p. R p q) marks (get_or out q 0) (get_or newOut q 0)
  pub bytes_at : (p : ℕ) → ByteMoved (R p) (get_or lost p 0) (get_or newLost p 0)

-- one pair
abbrev pub Pair : ℕ → ℕ → ℕ → ℕ → Type 0
Pair a b p q = (p ≡ a) × (q ≡ b)

-- as many pairs, side by side
pub record Pairs (a b n p q : ℕ) : Type 0 where
  pub k : ℕ
  pub below : k < n
  pub pair : Pair (a + k) (b + k) p q

-- 1 for a mark that is set, else 0
abbrev pub set_byte : ℕ → ℕ
set_byte zero = 0
set_byte (suc m) = 1
