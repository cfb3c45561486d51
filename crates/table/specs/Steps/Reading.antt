-- What reading the words of a table gives and asks for: numbers of 16 bits, and what must stand in the run. Assumes nothing.
use Rattle.std.specs.Prelude.{ℕ, ◌+◌, ◌*◌, ◌≤◌, ◌<◌, ◌≡◌, List, length, take, drop}
use Rattle.table.specs.Words.{types, entries, count_at, first_at}
use Rattle.table.specs.Rule.{rule_at, first_in, count_in}
use Rattle.table.specs.declared.rule.Rule.{Rule}

-- r is x, a number below the limit
pub record Within (limit x r : ℕ) : Type 0 where
  pub is : r ≡ x
  pub small : r < limit

-- r is the word x, widened
abbrev pub Widened : ℕ → ℕ → Type 0
Widened x r = Within 65536 x r

-- the record of type t stands in the run
abbrev pub HasRecord : List ℕ → ℕ → Type 0
HasRecord ws t = 8 + 3 * t + 3 ≤ length ws

-- the child list
abbrev pub child_list : List ℕ → List ℕ
child_list ws = take (entries ws) (drop (8 + 3 * types ws) ws)

-- r is the rule, of 16-bit numbers
pub record ReadAs (rule r : Rule) : Type 0 where
  pub is : r ≡ rule
  pub first : first_in r < 65536
  pub count : count_in r < 65536

-- the record of type t and its children stand in the run, as many as the record says
pub record HasChildren (ws : List ℕ) (t : ℕ) : Type 0 where
  pub described : HasRecord ws t
  pub counted : count_in (rule_at ws t) ≡ count_at ws t
  pub listed : 8 + 3 * types ws + first_at ws t + count_at ws t ≤ length ws
