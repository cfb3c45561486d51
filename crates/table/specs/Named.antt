-- An edit by what it names: its kind, "its type and children" (document 02, order 1). A listing prints the same of it: "`insert layer`, `delete layer`,
-- `replace draft held` or `text`"; "in format 2 a star's third privilege is `replace layer layer`" (order 10). Assumes nothing.
use Rattle.std.specs.Prelude.{ℕ, List}
use Rattle.table.specs.Rule.{child_at}
use Rattle.table.specs.Privilege.{Edit, text, insert, delete, exchange, replace}

-- the kinds, each with the type, and then the children that it names: for a replacement the one that goes and the one that comes
pub data Named : Type 0 where
  texts : ℕ → Named
  inserts deletes : ℕ → ℕ → Named
  replaces : ℕ → ℕ → ℕ → Named

abbrev pub name_of : List ℕ → Edit → Named
name_of ws (text x) = texts x
name_of ws (insert x) = inserts x (child_at ws x 0)
name_of ws (delete x) = deletes x (child_at ws x 0)
name_of ws (exchange x) = replaces x (child_at ws x 0) (child_at ws x 0)
name_of ws (replace x i j) = replaces x (child_at ws x i) (child_at ws x j)
