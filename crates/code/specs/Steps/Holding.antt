-- A buffer of 1,280 words that holds the front of a list; its size is counted up to 1,281, which stands for all that is longer. Assumes nothing.
use Rattle.std.specs.Prelude.{ℕ, ◌<◌, min, ◌≡◌, List, ◌∷◌, ◌++◌, length, get_or}

abbrev pub Sized : ℕ → List ℕ → Type 0
Sized n l = n ≡ min (length l) 1281

pub record Holds (buffer : List ℕ) (size : ℕ) (l : List ℕ) : Type 0 where
  pub sized : Sized size l
  pub same : (i : ℕ) → i < length l → i < 1280 → get_or buffer i 0 ≡ get_or l i 0

-- whatever the buffer held, it holds with these words behind it
pub record Emits (c before : List ℕ) (size : ℕ) (after : List ℕ) (grown : ℕ) : Type 0 where
  pub holds : (l : List ℕ) → Holds before size l → Holds after grown (l ++ c)

-- a word is put between two lists
pub record Inserts (before : List ℕ) (size at w : ℕ) (after : List ℕ) (grown : ℕ) : Type 0 where
  pub holds : (l m : List ℕ) → Sized at l → Holds before size (l ++ m) → Holds after grown (l ++ (w ∷ m))
  pub kept : length after ≡ length before
