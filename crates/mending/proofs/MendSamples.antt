-- The mends of sample policies: choices of four that need more than one, and a mend that leaves a breach. One table of rows, and one
-- statement, proved by one computation. Every expected answer was worked out by hand. S1 to S10 stand in crate samples. Assumes nothing.
use Rattle.std.proofs.Common.{ℕ, ◌≡◌, refl, List, [], ◌∷◌, map}
use Rattle.table.specs.Sum.{sum_below}
use Rattle.table.specs.Rule.{rule_of, rule_at, children_at, count_of}
use Rattle.table.specs.Privilege.{gap_of, privileges_at, first_privilege, privileges, replace_of}
use Rattle.table.proofs.Tables.{Each, each_computed, marks_of, sample, four}
use Rattle.verdict.specs.Answers.{breached}
use Rattle.verdict.specs.declared.Answer.{Answer}
use Rattle.verdict.specs.declared.Condition.TheVariants.{Chain}
use Rattle.verdict.proofs.PolicyTests.{at}
use Rattle.mending.specs.Mends.{Mends}
use Rattle.proposing.specs.Answers.{ProposeAnswer}
use Rattle.mending.proofs.MendTests.{mend_by, mend_by_lem}
use Rattle.proposing.proofs.ProposeTests.{propose_by, propose_by_lem}

-- words and marks, with what mending gives and its count; or with proposed marks and their answer
pub data Row : Type 0 where
  mends : List ℕ → List ℕ → List ℕ → ℕ → Row
  judges : List ℕ → List ℕ → List ℕ → Answer → Row

abbrev mended : List ℕ → ℕ → ℕ → ℕ → Row
mended words m n count = mends words (marks_of words m) (marks_of words n) count

abbrev proposed : List ℕ → ℕ → ℕ → Answer → Row
proposed words m n answer = judges words (marks_of words m) (marks_of words n) answer

abbrev pub rows : List Row
rows =
    -- 0 by 1, 1 by 0, 0 by 2 and 2 by 3 are allowed, 0 by 3 is forbidden. From 1 the way to 3 leads back over 0, and 1 is the lowest: 0 by 1 is
    -- taken first; 3 is still reached over 2, and 0 by 2 is taken
    mended four 112_100_001_000 222_100_001_000 2
    -- 0 by 1, 1 by 3, 0 by 2 and 2 by 1 are allowed, 0 by 3 is forbidden: 0 by 1 is taken, and 1 is still reached by the detour over 2, so that the
    -- newly forbidden replacement is the next breach, at which 0 by 2 is taken
    ∷ mended four 112_001_010_000 222_001_010_000 2
    -- S9 of document 01 with the first breach mended only: the second is left
    ∷ proposed sample 11021201000 12021201000 (breached (at Chain 4 0 2 5 1 (0 ∷ 1 ∷ 2 ∷ [])))
    ∷ []

abbrev pub Right : Row → Type 0
Right (mends words m n count) = Mends words m n count
Right (judges words m n answer) = ProposeAnswer words m n answer

-- a row with its outcome computed anew
abbrev again : Row → Row
again (mends words m n count) = let r = mend_by words m in mends words m r.marks r.count
again (judges words m n answer) = judges words m n (propose_by words m n)

again_right : (r : Row) → Right (again r)
again_right (mends words m n count) = mend_by_lem words m
again_right (judges words m n answer) = propose_by_lem words m n

computed : map again rows ≡ rows
unfolding sum_below rule_of rule_at children_at count_of gap_of privileges_at first_privilege privileges replace_of
computed = refl

pub samples : Each Right rows
samples = each_computed Right again again_right rows computed
