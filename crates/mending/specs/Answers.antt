-- What mending answers, and what the lent result holds afterwards (document 01, "Numbers of the answers and their
-- order"). Assumes nothing.
use Rattle.std.specs.Prelude.{ℕ, ◌≤◌, ◌<◌, ◌≡◌, List, ◌++◌, length, drop}
use Rattle.table.specs.Privilege.{privileges}
use Rattle.policy.specs.Marks.{NoPolicy, Policy}
use Rattle.verdict.specs.Answers.{refusal, done}
use Rattle.verdict.specs.declared.Answer.{Answer}
use Rattle.mending.specs.Mends.{Mends}

-- out is what was lent, after what it holds then
pub data MendAnswer (ws marks out : List ℕ) (a : Answer) (after : List ℕ) : Type 0 where
  -- 1 to 11, and 19
  refused : {number place : ℕ} → NoPolicy ws marks number place → a ≡ refusal number place → after ≡ out → MendAnswer ws marks out a after
  -- 12
  short : Policy ws marks → length out < privileges ws → a ≡ refusal 12 0 → after ≡ out → MendAnswer ws marks out a after
  -- what the rule gives, with its count, and the rest of the result as it was
  mended : {n : List ℕ} {count : ℕ} → Policy ws marks → privileges ws ≤ length out → Mends ws marks n count → a ≡ done count
      → after ≡ n ++ drop (privileges ws) out → MendAnswer ws marks out a after
