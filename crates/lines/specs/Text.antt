-- Bytes of text: digits, decimal numbers, and a line. Assumes nothing.
use Rattle.std.specs.Prelude.{ℕ, zero, suc, ◌+◌, ◌/◌, ◌%◌, cond, List, [], ◌∷◌, ◌++◌, map, ltb}

-- each byte raised by a number
abbrev pub raised : ℕ → List ℕ → List ℕ
raised by = map (λ b. b + by)

-- a digit's byte is raised by that of '0'
abbrev pub digits_of : List ℕ → List ℕ
digits_of = raised 48

-- the decimal digits of n, k at most: below ten the one, else those of the tenth and then the last
unfoldable pub decimal_within : ℕ → ℕ → List ℕ
decimal_within zero n = []
decimal_within (suc k) n = cond (ltb n 10) ((48 + n) ∷ []) (decimal_within k (n / 10) ++ ((48 + n % 10) ∷ []))

-- 20 hold every number of 64 bits
abbrev pub decimal : ℕ → List ℕ
decimal = decimal_within 20

-- a blank and the decimal digits, for each number
unfoldable pub numbers : List ℕ → List ℕ
numbers [] = []
numbers (n ∷ ns) = 32 ∷ (decimal n ++ numbers ns)

-- a blank and the marks, a digit each; nothing where there is no mark
unfoldable pub marks_text : List ℕ → List ℕ
marks_text [] = []
marks_text (m ∷ ms) = 32 ∷ digits_of (m ∷ ms)

-- a line: a word, the numbers, the marks and the line's end
abbrev pub line : List ℕ → List ℕ → List ℕ → List ℕ
line word ns ms = word ++ numbers ns ++ marks_text ms ++ (10 ∷ [])
