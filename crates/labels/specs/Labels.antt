-- The names of types: "names are order 3's, made types being `#` and their number" (document 02, order 10). Assumes nothing.
use Rattle.std.specs.Prelude.{ℕ, ◌+◌, ◌/◌, ◌%◌, cond, List, [], ◌∷◌, ltb, length, get_or}
use Prim.Native.Char.{code}

abbrev pub digit : ℕ → ℕ
digit n = code "0" + n

-- a number below a thousand in decimal digits, the first of them no 0 unless it is the only one
unfoldable pub decimal : ℕ → List ℕ
decimal n = cond (ltb n 10) (digit n ∷ []) (cond (ltb n 100) (digit (n / 10) ∷ digit (n % 10) ∷ []) (digit (n / 100) ∷ digit (n / 10 % 10) ∷ digit (n % 10) ∷ []))

-- the name of type x, by the declared names in their order: a declared type's own; a made type's is `#` and its number
unfoldable pub label_of : List (List ℕ) → ℕ → List ℕ
label_of names x = cond (ltb x (length names)) (get_or names x []) (code "#" ∷ decimal x)
