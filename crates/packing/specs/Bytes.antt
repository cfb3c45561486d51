-- A table in a file (document 01, "each word is two bytes, low byte first"), and the line of a refusal. Assumes nothing.
use Rattle.std.specs.Prelude.{ℕ, ◌+◌, ◌*◌, ◌<◌, ◌≡◌, List, [], ◌∷◌, ◌++◌, length, get_or, Option, decimal}
use Rattle.std.specs.Io.KnownBytes.{Appends}

-- the first so many words are these bytes, two of each
pub record Packed (words : List ℕ) (count : ℕ) (bytes : List ℕ) : Type 0 where
  pub word : (k : ℕ) → k < count → get_or bytes (2 * k) 0 + 256 * get_or bytes (2 * k + 1) 0 ≡ get_or words k 0

-- what a writer holds has grown by the bytes of the first so many words, and by nothing else
pub record PutTable (words : List ℕ) (count : ℕ) (old new : Option (List ℕ)) : Type 0 where
  pub bytes : List ℕ
  pub size : length bytes ≡ 2 * count
  pub packed : Packed words count bytes
  pub appended : Appends old new bytes

-- a word, a blank and the number, a blank and the place, and the line's end
abbrev pub refusal_line : List ℕ → ℕ → ℕ → List ℕ
refusal_line word number place = word ++ 32 ∷ (decimal number ++ 32 ∷ (decimal place ++ 10 ∷ []))
