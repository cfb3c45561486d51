-- "A table is a lent run of 16-bit words: a header of counts and offsets, then type records, then the child list"; "each type record has three
-- words: kind, number of children, index of the first child in the child list" (document 01, "The schema table"). Every definition reads 0 past
-- the end of the words. Assumes nothing.
use Rattle.std.specs.Prelude.{ℕ, ◌+◌, ◌*◌, List, get_or}
use Rattle.table.specs.Sum.{sum_below}

-- the format, which says what edits the table has
abbrev pub format_of : List ℕ → ℕ
format_of ws = get_or ws 0 0

-- E, the number of types
abbrev pub types : List ℕ → ℕ
types ws = get_or ws 2 0

-- the root type
abbrev pub root : List ℕ → ℕ
root ws = get_or ws 3 0

-- C, the number of child entries
abbrev pub entries : List ℕ → ℕ
entries ws = get_or ws 5 0

-- word k of the record of type t
abbrev pub record_word : List ℕ → ℕ → ℕ → ℕ
record_word ws t k = get_or ws (8 + 3 * t + k) 0

abbrev pub kind_at : List ℕ → ℕ → ℕ
kind_at ws t = record_word ws t 0

-- the number of children
abbrev pub count_at : List ℕ → ℕ → ℕ
count_at ws t = record_word ws t 1

-- the index of the first child in the child list
abbrev pub first_at : List ℕ → ℕ → ℕ
first_at ws t = record_word ws t 2

-- the running index: how many children the types below t have
abbrev pub running : List ℕ → ℕ → ℕ
running ws t = sum_below (count_at ws) t
