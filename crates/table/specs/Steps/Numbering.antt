-- How the edits at one type are numbered, and the parts of a count of privileges. Assumes nothing.
use Rattle.std.specs.Prelude.{ℕ, ◌+◌, ◌-◌, ◌*◌, ◌≤◌, ◌<◌, ◌≡◌, List, length, get_or}
use Rattle.table.specs.Words.{types}
use Rattle.table.specs.Rule.{count_of}
use Rattle.table.specs.Privilege.{gap_of, first_privilege, slot_of}
use Rattle.table.specs.declared.privilege.Numbering.{Numbering}
use Rattle.table.specs.declared.rule.Rule.{Rule}
use Rattle.table.specs.declared.rule.Rule.TheVariants.{Empty, Text, Sequence, Choice, Star}

-- how many privileges of a rule are no replacements at a choice, by the number that a star has; and how many of its children can be replaced there
abbrev pub others_of : ℕ → Rule → ℕ
others_of star Empty = 0
others_of star Text = 1
others_of star (Sequence first n) = 0
others_of star (Choice first n) = 0
others_of star (Star first n) = star

abbrev pub choices_of : Rule → ℕ
choices_of Empty = 0
choices_of Text = 0
choices_of (Sequence first n) = 0
choices_of (Choice first n) = n
choices_of (Star first n) = 0

-- a number for each type, its first privilege, and those behind the types as they were
pub record Firsts (ws old new : List ℕ) : Type 0 where
  pub size : length new ≡ 256
  pub each : (x : ℕ) → x < types ws → get_or new x 0 ≡ first_privilege ws x
  pub rest : (x : ℕ) → types ws ≤ x → get_or new x 0 ≡ get_or old x 0

-- how the edits at a type are numbered: from its first privilege, by its number of children and by the gap of the table's format
pub record NumberedAs (ws : List ℕ) (x : ℕ) (n : Numbering) : Type 0 where
  pub first : n.first ≡ first_privilege ws x
  pub count : n.count ≡ count_of ws x
  pub gap : n.gap ≡ gap_of ws
  pub low : n.first ≤ 4096
  pub few : n.count ≤ 16
  pub narrow : n.gap ≤ 1

-- a numbering of at most 16 children, from a low number on
pub record Small (n : Numbering) : Type 0 where
  pub low : n.first ≤ 4096
  pub few : n.count ≤ 16
  pub narrow : n.gap ≤ 1

-- i and j are positions of the choice
pub record Positions (n : Numbering) (i j : ℕ) : Type 0 where
  pub small : Small n
  pub from : i < n.count
  pub to : j < n.count

-- the privileges by the numbering: to replace the child at i by the kind at j; to insert; to delete; to exchange
abbrev pub replace_in : Numbering → ℕ → ℕ → ℕ
replace_in n i j = n.first + slot_of n.gap n.count i j

abbrev pub insert_in : Numbering → ℕ
insert_in n = n.first

abbrev pub delete_in : Numbering → ℕ
delete_in n = n.first + 1

abbrev pub exchange_in : Numbering → ℕ
exchange_in n = n.first + 2

-- a row, the replacements of the child at i: how many they are, and the first of them
abbrev pub width_in : Numbering → ℕ
width_in n = n.count - n.gap

abbrev pub row_in : Numbering → ℕ → ℕ
row_in n i = n.first + i * width_in n

-- the position by which the child at i cannot be replaced: its own in format 1; in format 2 one that no choice has. The replacements by the kinds
-- before it come first in the row, then those by the kinds behind it.
abbrev pub missing_in : Numbering → ℕ → ℕ
missing_in n i = i + 16 * (1 - n.gap)

-- by the numbering, there is a privilege to exchange at a star
abbrev pub ExchangeableIn : Numbering → Type 0
ExchangeableIn n = n.gap ≡ 0

-- by the numbering, there is a privilege to replace the child at i by the kind at j
pub record ReplaceableIn (n : Numbering) (i j : ℕ) : Type 0 where
  pub from : i < n.count
  pub to : j < n.count
  pub same_kind : i ≡ j → n.gap ≡ 0
