-- An edit by what it names, as the program holds it, and the edits at one type by their number there. Assumes nothing.
use Rattle.std.specs.Prelude.{ℕ, ◌+◌, ◌-◌, ◌≡◌, cond, List, ltb}
use Rattle.table.specs.Privilege.{Edit, type_of, Offers, privilege_of, first_privilege}
use Rattle.table.specs.Named.{Named, texts, inserts, deletes, replaces, name_of}
use Rattle.mailing.specs.declared.edit.Naming.{Naming}
use Rattle.mailing.specs.declared.edit.Naming.TheVariants.{Text, Insert, Delete, Replace}

abbrev pub named_by : Naming → Named
named_by (Text x) = texts x
named_by (Insert x child) = inserts x child
named_by (Delete x child) = deletes x child
named_by (Replace x from to) = replaces x from to

-- the table has an edit that is the k-th at type x, and this is what it names
pub record EditAt (ws : List ℕ) (x k : ℕ) (r : Naming) : Type 0 where
  pub edit : Edit
  pub offered : Offers ws edit
  pub type : type_of edit ≡ x
  pub number : privilege_of ws edit ≡ first_privilege ws x + k
  pub is : named_by r ≡ name_of ws edit

-- the replacement of the child at i by the kind at j stands in this column of its row, and there is one
pub record InColumn (gap i column j : ℕ) : Type 0 where
  pub stands : cond (ltb i j) (j - gap) j ≡ column
  pub same_kind : i ≡ j → gap ≡ 0
