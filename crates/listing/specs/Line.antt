-- "`+` or `-`, type name, then `insert layer`, `delete layer`, `replace draft held` or `text`, single spaces between all parts, newline ended; in format 2 a
-- star's third privilege is `replace layer layer`" (document 02, order 10). Assumes nothing.
use Rattle.std.specs.Prelude.{ℕ, cond, List, [], ◌∷◌, ◌++◌, eqb}
use Prim.Native.Char.{code}
use Rattle.table.specs.Named.{Named, texts, inserts, deletes, replaces}
use Rattle.grammar.specs.Bytes.{ascii}

-- the sign of a mark: 1, allowed, or 2, forbidden
unfoldable pub sign_of : ℕ → List ℕ
sign_of mark = cond (eqb mark 1) (ascii "+") (ascii "-")

-- what a line says of an edit, by the labels of the types that it names
unfoldable pub parts_of : (ℕ → List ℕ) → Named → List (List ℕ)
parts_of label (texts x) = label x ∷ ascii "text" ∷ []
parts_of label (inserts x child) = label x ∷ ascii "insert" ∷ label child ∷ []
parts_of label (deletes x child) = label x ∷ ascii "delete" ∷ label child ∷ []
parts_of label (replaces x from to) = label x ∷ ascii "replace" ∷ label from ∷ label to ∷ []

-- "single spaces between all parts, newline ended"
unfoldable pub spaced : List ℕ → List (List ℕ) → List ℕ
spaced first [] = first ++ (code "\n" ∷ [])
spaced first (next ∷ rest) = first ++ (code " " ∷ spaced next rest)

-- the line of an edit with this mark
abbrev pub line_of : (ℕ → List ℕ) → ℕ → Named → List ℕ
line_of label mark edit = spaced (sign_of mark) (parts_of label edit)
