-- What the words of a code say, for every list of words: what a word makes, what it takes to pass an operand, which children an operator has, and the
-- rules of all types in the order of their numbers. Assumes nothing.
use Rattle.std.specs.Prelude.{ℕ, zero, suc, ◌+◌, ◌-◌, ◌*◌, ◌/◌, ◌%◌, ◌≤◌, ◌≡◌, Bool, false, not, cond, List, [], ◌∷◌, ◌++◌, ltb, eqb, length, drop}

-- how many operands follow a word, and how many types it makes: its own, and one more inside where it is optional (from 6 * 65536 = 393216 on) or
-- positive (from 458752 on). A name, below 65536, makes none
unfoldable pub operands_in : ℕ → ℕ
operands_in w = cond (ltb w 65536) 0 (w % 65536)

unfoldable pub own_in : ℕ → ℕ
own_in w = cond (ltb w 65536) 0 1

unfoldable pub extra_in : ℕ → ℕ
extra_in w = cond (ltb w 393216) 0 1

-- how many children the type inside has: the star one, the empty none
unfoldable pub star_in : ℕ → ℕ
star_in w = cond (ltb w 458752) 0 1

-- the kind of its own type's rule, by document 01's numbers
unfoldable pub rule_kind_in : ℕ → ℕ
rule_kind_in w = cond (ltb w 393216) (w / 65536 - 1) (3 - star_in w)

-- how many operands are to come behind a word, where `need` were before it: none before the first word of a declaration
abbrev pub need_after : ℕ → ℕ → ℕ
need_after zero w = operands_in w
need_after (suc need) w = need + operands_in w

-- where x is the first number that is free before a word: the first number for the types made inside it, a declaration's own type being numbered
-- apart; and the first number that is free behind it
abbrev pub inner_of : ℕ → ℕ → ℕ → ℕ
inner_of zero x w = x
inner_of (suc need) x w = x + own_in w

abbrev pub free_after : ℕ → ℕ → ℕ → ℕ
free_after need x w = inner_of need x w + extra_in w

-- behind so many operands: the words left, and the first number that is free
abbrev pub rest_of : List ℕ → ℕ → List ℕ
rest_of [] need = []
rest_of (w ∷ ws) zero = w ∷ ws
rest_of (w ∷ ws) (suc need) = rest_of ws (need_after (suc need) w)

abbrev pub free_of : List ℕ → ℕ → ℕ → ℕ
free_of [] need x = x
free_of (w ∷ ws) zero x = x
free_of (w ∷ ws) (suc need) x = free_of ws (need_after (suc need) w) (free_after (suc need) x w)

-- the child that the operand at the front is, and the children that n operands are
abbrev pub child_in : ℕ → List ℕ → ℕ
child_in x [] = 0
child_in x (w ∷ ws) = cond (ltb w 65536) w x

abbrev pub children_in : ℕ → ℕ → List ℕ → List ℕ
children_in zero x ws = []
children_in (suc n) x ws = child_in x ws ∷ children_in n (free_of ws 1 x) (rest_of ws 1)

-- a type's kind and children
pub record Row : Type 0 where
  pub kind : ℕ
  pub kids : List ℕ

-- the children of a row: those that n operands are, the types made inside them being numbered from y, and last the type before y where one is made
abbrev pub last_of : ℕ → ℕ → List ℕ
last_of zero y = []
last_of (suc e) y = (y - 1) ∷ []

abbrev pub row_of : ℕ → ℕ → ℕ → ℕ → List ℕ → Row
row_of kind n e y ws = record { kind = kind; kids = children_in n y ws ++ last_of e y }

-- a word's own row, and that of the type it makes inside
abbrev pub own_row : ℕ → ℕ → List ℕ → Row
own_row y w ws = row_of (rule_kind_in w) (operands_in w) (extra_in w) (y + extra_in w) ws

abbrev pub extra_row : ℕ → ℕ → List ℕ → Row
extra_row y w ws = row_of (4 * star_in w) (star_in w) 0 (y + 1) ws

-- which of them are due: at first the own rows of declarations, later all others
unfoldable pub own_due : Bool → ℕ → ℕ → Bool
own_due later need w = cond (ltb w 65536) false (cond later (not (eqb need 0)) (eqb need 0))

unfoldable pub extra_due : Bool → ℕ → Bool
extra_due later w = cond later (not (ltb w 393216)) false

abbrev pub due_of : Bool → Row → List Row
due_of due r = cond due (r ∷ []) []

-- the rows that are due at a word, and in a code
abbrev pub rows_at : Bool → ℕ → ℕ → ℕ → List ℕ → List Row
rows_at later need x w ws =
    due_of (own_due later need w) (own_row (inner_of need x w) w ws) ++ due_of (extra_due later w) (extra_row (inner_of need x w) w ws)

abbrev pub rows_in : Bool → ℕ → ℕ → List ℕ → List Row
rows_in later need x [] = []
rows_in later need x (w ∷ ws) = rows_at later need x w ws ++ rows_in later (need_after need w) (free_after need x w) ws

-- how many types and child entries the words make
abbrev pub types_in : List ℕ → ℕ
types_in [] = 0
types_in (w ∷ ws) = own_in w + extra_in w + types_in ws

abbrev pub kids_in : List ℕ → ℕ
kids_in [] = 0
kids_in (w ∷ ws) = operands_in w + extra_in w + star_in w + kids_in ws

-- a place in a code, with the first number that is free there
pub record Numbered (code : List ℕ) (c x : ℕ) : Type 0 where
  pub short : length code ≤ 1280
  pub within : c ≤ length code
  pub low : x ≤ 256 + 2 * c

-- the place behind the operand at c
pub record Skipped (code : List ℕ) (c x c' x' : ℕ) : Type 0 where
  pub there : Numbered code c' x'
  pub rest : drop c' code ≡ rest_of (drop c code) 1
  pub free : x' ≡ free_of (drop c code) 1 x
