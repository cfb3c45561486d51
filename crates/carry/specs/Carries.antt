-- "A new privilege gets the old mark if an old one has the same kind of edit and its type and children map onto it; otherwise it is unset. A second result
-- has one byte for each old privilege: 1 if it was set and found no new home, else 0" (document 02, order 1). Assumes nothing.
use Rattle.std.specs.Prelude.{ℕ, ◌<◌, ◌≡◌, ◌≢◌, List, length, get_or}
use Rattle.table.specs.Words.{types}
use Rattle.table.specs.Privilege.{privileges, Edit, Offers, privilege_of}
use Rattle.table.specs.Named.{Named, texts, inserts, deletes, replaces, name_of}
use Rattle.table.specs.Check.{Accepted}
use Rattle.policy.specs.Marks.{Policy}
use Rattle.carry.specs.Numbers.{new_number, NewNumbers}

-- the same kind of edit, at the types that f maps its type and children onto
abbrev pub mapped : (ℕ → ℕ) → Named → Named
mapped f (texts x) = texts (f x)
mapped f (inserts x a) = inserts (f x) (f a)
mapped f (deletes x a) = deletes (f x) (f a)
mapped f (replaces x a b) = replaces (f x) (f a) (f b)

-- the old privilege p becomes the new one q: they are those of two edits, of which the list maps the one onto the other
pub record Becomes (old new numbers : List ℕ) (p q : ℕ) : Type 0 where
  pub before : Edit
  pub offered : Offers old before
  pub old_is : privilege_of old before ≡ p
  pub after : Edit
  pub offers : Offers new after
  pub new_is : privilege_of new after ≡ q
  pub same : name_of new after ≡ mapped (new_number numbers) (name_of old before)

-- the mark of a new privilege, From being the old ones that become it
pub data NewMark (From : ℕ → Type 0) (marks : List ℕ) (mark : ℕ) : Type 0 where
  kept : (p : ℕ) → From p → mark ≡ get_or marks p 0 → NewMark From marks mark
  fresh : ((p : ℕ) → ¬ From p) → mark ≡ 0 → NewMark From marks mark

-- the byte of an old privilege with this mark, Home being the new ones that it becomes
pub data LostByte (Home : ℕ → Type 0) (mark byte : ℕ) : Type 0 where
  lost : mark ≢ 0 → ((q : ℕ) → ¬ Home q) → byte ≡ 1 → LostByte Home mark byte
  unset : mark ≡ 0 → byte ≡ 0 → LostByte Home mark byte
  housed : (q : ℕ) → Home q → byte ≡ 0 → LostByte Home mark byte

-- new-marks and bytes are the two results
pub record Carries (old marks new numbers new-marks bytes : List ℕ) : Type 0 where
  pub size : length new-marks ≡ privileges new
  pub marks_are : (q : ℕ) → q < privileges new → NewMark (λ p. Becomes old new numbers p q) marks (get_or new-marks q 0)
  pub bytes_size : length bytes ≡ privileges old
  pub bytes_are : (p : ℕ) → p < privileges old → LostByte (Becomes old new numbers p) (get_or marks p 0) (get_or bytes p 0)

-- what can be carried: a policy of the old table, a new table, and a list from the types of the one to those of the other
pub record Move (old marks new numbers : List ℕ) : Type 0 where
  pub policy : Policy old marks
  pub accepted : Accepted new
  pub listed : NewNumbers (types old) (types new) numbers
