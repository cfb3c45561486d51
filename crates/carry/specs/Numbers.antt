-- "A list giving each old type's new number, or 65,535 if it is gone"; "17 the list isn't as long as the old types, 18 an entry is neither 65,535 nor
-- below the new E, or is another number used before (place: that old type)" (document 02, order 1). Assumes nothing.
use Rattle.std.specs.Prelude.{ℕ, ◌<◌, ◌≡◌, ◌≢◌, ◌⊎◌, List, length, get_or}
use Rattle.table.specs.Lowest.{LowestAt}

-- the new number of the old type x
abbrev pub new_number : List ℕ → ℕ → ℕ
new_number numbers x = get_or numbers x 0

-- the entry of the old type x is 65,535, or is below the new E, e, and none of those before
pub record EntryFits (numbers : List ℕ) (e x : ℕ) : Type 0 where
  pub inside : (new_number numbers x ≡ 65535) ⊎ (new_number numbers x < e)
  pub once : new_number numbers x ≢ 65535 → (z : ℕ) → z < x → new_number numbers z ≢ new_number numbers x

-- a list for as many old types, into e new ones
pub record NewNumbers (types e : ℕ) (numbers : List ℕ) : Type 0 where
  pub size : length numbers ≡ types
  pub entries : (x : ℕ) → x < types → EntryFits numbers e x

-- why it is none: 17 for its length, 18 for an entry, with the lowest such old type
pub data NoNumbers (types e : ℕ) (numbers : List ℕ) (number place : ℕ) : Type 0 where
  length_off : length numbers ≢ types → number ≡ 17 → place ≡ 0 → NoNumbers types e numbers number place
  entry_off : length numbers ≡ types → number ≡ 18 → LowestAt (EntryFits numbers e) types place → NoNumbers types e numbers number place
