-- "A type's rule is exactly one of five: 0 empty, 1 text, 2 sequence, 3 choice, 4 star"; "the children of a type are a stretch that starts inside
-- the child list" (document 01, "The schema table"). A record whose kind is above 4, which check 3 refuses, counts as empty here. Assumes nothing.
use Rattle.std.specs.Prelude.{ℕ, zero, suc, ◌+◌, ◌*◌, ◌<◌, ◌≡◌, List, length, get_or, take, drop}
use Rattle.table.specs.Words.{types, kind_at, count_at, first_at}
use Rattle.table.specs.declared.rule.Rule.{Rule}
use Rattle.table.specs.declared.rule.Rule.TheVariants.{Empty, Text, Sequence, Choice, Star}

-- the rule that a kind, an index of the first child and a number of children say
unfoldable pub rule_of : ℕ → ℕ → ℕ → Rule
rule_of zero first count = Empty
rule_of (suc zero) first count = Text
rule_of (suc (suc zero)) first count = Sequence first count
rule_of (suc (suc (suc zero))) first count = Choice first count
rule_of (suc (suc (suc (suc zero)))) first count = Star first count
rule_of (suc (suc (suc (suc (suc above))))) first count = Empty

-- the rule of type t
unfoldable pub rule_at : List ℕ → ℕ → Rule
rule_at ws t = rule_of (kind_at ws t) (first_at ws t) (count_at ws t)

-- the index of a rule's first child, and the number of its children
abbrev pub first_in : Rule → ℕ
first_in Empty = 0
first_in Text = 0
first_in (Sequence first count) = first
first_in (Choice first count) = first
first_in (Star first count) = first

abbrev pub count_in : Rule → ℕ
count_in Empty = 0
count_in Text = 0
count_in (Sequence first count) = count
count_in (Choice first count) = count
count_in (Star first count) = count

-- the document's number of each kind of rule
abbrev pub kind_in : Rule → ℕ
kind_in Empty = 0
kind_in Text = 1
kind_in (Sequence first count) = 2
kind_in (Choice first count) = 3
kind_in (Star first count) = 4

-- the children of a rule: a stretch that starts inside the child list
abbrev pub children_in : List ℕ → Rule → List ℕ
children_in ws rule = take (count_in rule) (drop (8 + 3 * types ws + first_in rule) ws)

-- the children of type t
unfoldable pub children_at : List ℕ → ℕ → List ℕ
children_at ws t = children_in ws (rule_at ws t)

-- how many children type t has, and the one at position i
unfoldable pub count_of : List ℕ → ℕ → ℕ
count_of ws t = count_in (rule_at ws t)

abbrev pub child_at : List ℕ → ℕ → ℕ → ℕ
child_at ws t i = get_or (children_at ws t) i 0

-- t is a type of this kind
pub record OfKind (ws : List ℕ) (t kind : ℕ) : Type 0 where
  pub type : t < types ws
  pub kind_is : kind_in (rule_at ws t) ≡ kind

abbrev pub IsText : List ℕ → ℕ → Type 0
IsText ws t = OfKind ws t 1

abbrev pub IsChoice : List ℕ → ℕ → Type 0
IsChoice ws t = OfKind ws t 3

abbrev pub IsStar : List ℕ → ℕ → Type 0
IsStar ws t = OfKind ws t 4

-- x is a child of y: it stands at a position among y's children
pub record Child (ws : List ℕ) (y x : ℕ) : Type 0 where
  pub parent : y < types ws
  pub inside : x < types ws
  pub at : ℕ
  pub within : at < length (children_at ws y)
  pub is : child_at ws y at ≡ x
