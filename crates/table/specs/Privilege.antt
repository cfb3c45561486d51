-- "Privileges are numbered from 0, types in ascending order. Empty and sequence have none. Text has one (change the text). Star has two: insert, then
-- delete. A choice of n children has n(n - 1): the privilege to replace the child at position i by the kind at position j stands at
-- first + i(n - 1) + j, less 1 if j is greater than i" (document 01, "Privileges and marks"). "In format 2 a star has insert, delete, replace, and a
-- choice of n has n × n privileges, first + i × n + j" (document 02, order 9); the star's third edit is called the exchange here. Assumes nothing.
use Rattle.std.specs.Prelude.{ℕ, ◌+◌, ◌-◌, ◌*◌, ◌≤◌, ◌<◌, ◌≡◌, cond, List, eqb, ltb}
use Rattle.table.specs.Sum.{sum_below}
use Rattle.table.specs.Words.{format_of, types}
use Rattle.table.specs.Rule.{rule_at, count_of, IsText, IsChoice, IsStar}
use Rattle.table.specs.declared.rule.Rule.{Rule}
use Rattle.table.specs.declared.rule.Rule.TheVariants.{Empty, Text, Sequence, Choice, Star}

-- how many kinds there are by which a child cannot be replaced: in format 2 none, in format 1 one, its own
abbrev pub gap_in : ℕ → ℕ
gap_in format = cond (eqb format 2) 0 1

unfoldable pub gap_of : List ℕ → ℕ
gap_of ws = gap_in (format_of ws)

-- how many privileges a type of this rule has, by that number
abbrev pub privileges_of : ℕ → Rule → ℕ
privileges_of gap Empty = 0
privileges_of gap Text = 1
privileges_of gap (Sequence first n) = 0
privileges_of gap (Choice first n) = n * (n - gap)
privileges_of gap (Star first n) = 3 - gap

-- how many type x has
unfoldable pub privileges_at : List ℕ → ℕ → ℕ
privileges_at ws x = privileges_of (gap_of ws) (rule_at ws x)

-- the first privilege of type x
unfoldable pub first_privilege : List ℕ → ℕ → ℕ
first_privilege ws x = sum_below (privileges_at ws) x

-- V, the number of privileges
unfoldable pub privileges : List ℕ → ℕ
privileges ws = first_privilege ws (types ws)

-- privilege p belongs to type x
pub record Belongs (ws : List ℕ) (p x : ℕ) : Type 0 where
  pub type : x < types ws
  pub from : first_privilege ws x ≤ p
  pub until : p < first_privilege ws x + privileges_at ws x

-- where the replacement of the child at i by the kind at j stands among those of a choice of n children
abbrev pub slot_of : ℕ → ℕ → ℕ → ℕ → ℕ
slot_of gap n i j = i * (n - gap) + cond (ltb i j) (j - gap) j

-- the privileges by name: to change the text of x; to insert, to delete and to exchange at the star x; to replace at the choice x
abbrev pub text_of : List ℕ → ℕ → ℕ
text_of ws x = first_privilege ws x

abbrev pub insert_of : List ℕ → ℕ → ℕ
insert_of ws x = first_privilege ws x

abbrev pub delete_of : List ℕ → ℕ → ℕ
delete_of ws x = first_privilege ws x + 1

abbrev pub exchange_of : List ℕ → ℕ → ℕ
exchange_of ws x = first_privilege ws x + 2

unfoldable pub replace_of : List ℕ → ℕ → ℕ → ℕ → ℕ
replace_of ws x i j = first_privilege ws x + slot_of (gap_of ws) (count_of ws x) i j

-- the table has edits that replace an element by one of its own kind
abbrev pub SameKind : List ℕ → Type 0
SameKind ws = format_of ws ≡ 2

-- there is a privilege to exchange a child of the star x for one of its own kind
pub record Exchangeable (ws : List ℕ) (x : ℕ) : Type 0 where
  pub star : IsStar ws x
  pub same_kind : SameKind ws

-- there is a privilege to replace the child at i by the kind at j, which may be its own in format 2 only
pub record Replaceable (ws : List ℕ) (x i j : ℕ) : Type 0 where
  pub choice : IsChoice ws x
  pub from : i < count_of ws x
  pub to : j < count_of ws x
  pub same_kind : i ≡ j → SameKind ws

-- the kinds of edit, each at a type
pub data Edit : Type 0 where
  text insert delete exchange : ℕ → Edit
  replace : ℕ → ℕ → ℕ → Edit

abbrev pub type_of : Edit → ℕ
type_of (text x) = x
type_of (insert x) = x
type_of (delete x) = x
type_of (exchange x) = x
type_of (replace x i j) = x

-- the table has this edit
abbrev pub Offers : List ℕ → Edit → Type 0
Offers ws (text x) = IsText ws x
Offers ws (insert x) = IsStar ws x
Offers ws (delete x) = IsStar ws x
Offers ws (exchange x) = Exchangeable ws x
Offers ws (replace x i j) = Replaceable ws x i j

-- the privilege to make it
abbrev pub privilege_of : List ℕ → Edit → ℕ
privilege_of ws (text x) = text_of ws x
privilege_of ws (insert x) = insert_of ws x
privilege_of ws (delete x) = delete_of ws x
privilege_of ws (exchange x) = exchange_of ws x
privilege_of ws (replace x i j) = replace_of ws x i j
