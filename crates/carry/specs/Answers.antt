-- What carrying marks answers, and what both lent results hold afterwards: "the old table's numbers, 10 and 11 for the marks, the new table's numbers
-- raised by 100, 17 .., 18 .., 12 if either result is short; in this order" (document 02, order 1). Assumes nothing.
use Rattle.std.specs.Prelude.{ℕ, ◌+◌, ◌≤◌, ◌≡◌, ◌≢◌, List, ◌++◌, length, drop}
use Rattle.table.specs.Words.{types}
use Rattle.table.specs.Privilege.{privileges}
use Rattle.table.specs.Check.{Accepted, TableAnswer}
use Rattle.policy.specs.Marks.{NoPolicy, Policy}
use Rattle.verdict.specs.Answers.{refusal, done}
use Rattle.verdict.specs.declared.Answer.{Answer}
use Rattle.carry.specs.Numbers.{NoNumbers}
use Rattle.carry.specs.Carries.{Carries, Move}

-- why nothing can be carried
pub data NoMove (old marks new numbers : List ℕ) (number place : ℕ) : Type 0 where
  no_policy : NoPolicy old marks number place → NoMove old marks new numbers number place
  no_table : {check : ℕ} → Policy old marks → check ≢ 0 → TableAnswer new check place → number ≡ 100 + check → NoMove old marks new numbers number place
  no_numbers : Policy old marks → Accepted new → NoNumbers (types old) (types new) numbers number place → NoMove old marks new numbers number place

-- neither result is short
pub record Room (old new out lost : List ℕ) : Type 0 where
  pub out_room : privileges new ≤ length out
  pub lost_room : privileges old ≤ length lost

-- out and lost are what was lent, after and lost-after what they hold then
pub data CarryAnswer (old marks new numbers out lost : List ℕ) (a : Answer) (after lost-after : List ℕ) : Type 0 where
  -- 1 to 11 and 19, 101 to 109 and 119, 17, 18
  refused : {number place : ℕ} → NoMove old marks new numbers number place → a ≡ refusal number place → after ≡ out → lost-after ≡ lost
      → CarryAnswer old marks new numbers out lost a after lost-after
  -- 12
  short : Move old marks new numbers → ¬ Room old new out lost → a ≡ refusal 12 0 → after ≡ out → lost-after ≡ lost
      → CarryAnswer old marks new numbers out lost a after lost-after
  -- the new marks and the bytes, and the rest of both results as it was
  carried : {new-marks bytes : List ℕ} → Move old marks new numbers → Room old new out lost → Carries old marks new numbers new-marks bytes → a ≡ done 0
      → after ≡ new-marks ++ drop (privileges new) out → lost-after ≡ bytes ++ drop (privileges old) lost
      → CarryAnswer old marks new numbers out lost a after lost-after
