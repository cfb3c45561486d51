-- A file (document 01, "The program judge reads standard input: the table, then the marks, one byte each, to the end. It lends the number of
-- words named in word 1, or every whole word if the file holds fewer or has no word 1."). Assumes nothing.
use Rattle.std.specs.Prelude.{ℕ, ◌+◌, ◌*◌, List, [], ◌∷◌, length, get_or, take, drop}

-- each word is two bytes, low byte first; a last byte alone is no word
unfoldable pub words_of : List ℕ → List ℕ
words_of [] = []
words_of (alone ∷ []) = []
words_of (low ∷ high ∷ rest) = (low + 256 * high) ∷ words_of rest

-- of these words, the number named in word 1, or all where there are fewer or there is no word 1
abbrev pub lent_of : List ℕ → List ℕ
lent_of ws = take (get_or ws 1 (length ws)) ws

-- the table that a file lends
abbrev pub table_of : List ℕ → List ℕ
table_of file = lent_of (words_of file)

-- the marks that it lends: all bytes behind the table
abbrev pub marks_of : List ℕ → List ℕ
marks_of file = drop (2 * length (table_of file)) file
