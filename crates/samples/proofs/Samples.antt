-- S1 to S10 of document 01: the verdict, the completion, the mend and the proposals, on the sample schema and on the same with its types in
-- alphabetical order; and on the sample schema in format 2, with a row at least for each thing that is new there (document 02, order 9). One table of rows,
-- and one statement, proved by one computation. The expected answers are document 01's, and the same under the other numbers; those of format 2 were worked
-- out by hand. Assumes nothing.
use Prim.Native.Nat.{ℕ}
use mathlib.Core.Path.{◌≡◌, refl}
use mathlib.Core.List.{List, [], ◌∷◌, map}
use Rattle.table.specs.Sum.{sum_below}
use Rattle.table.specs.Rule.{rule_of, rule_at, children_at, count_of}
use Rattle.table.specs.Privilege.{gap_of, privileges_at, first_privilege, privileges, replace_of}
use Rattle.table.proofs.Tables.{Each, each_computed, marks_of, sample, sample_two, alphabetical, alphabetical_two}
use Rattle.verdict.specs.Breaches.{no_breach, Verdict}
use Rattle.verdict.specs.Answers.{refusal, done, breached}
use Rattle.verdict.specs.declared.Answer.{Answer}
use Rattle.verdict.specs.declared.Breach.{Breach}
use Rattle.verdict.specs.declared.Condition.TheVariants.{InsertDelete, Chain, Cycle}
use Rattle.verdict.proofs.PolicyTests.{at, verdict_by, verdict_by_lem}
use Rattle.completion.proofs.Granting.{Outcome, none, least, Comes, outcome_by, outcome_by_lem}
use Rattle.mending.specs.Mends.{Mends}
use Rattle.proposing.specs.Answers.{ProposeAnswer}
use Rattle.mending.proofs.MendTests.{mend_by, mend_by_lem}
use Rattle.proposing.proofs.ProposeTests.{propose_by, propose_by_lem}

-- words and marks, with the verdict, the completion, the mend and its count; or with proposed marks and their answer
pub data Row : Type 0 where
  judges : (words marks : List ℕ) → Breach → Outcome → (mended : List ℕ) → (count : ℕ) → Row
  proposes : (words marks proposed : List ℕ) → Answer → Row

-- a clean policy is mended by a copy
abbrev clean : List ℕ → ℕ → ℕ → Row
clean ws m n = judges ws (marks_of ws m) no_breach (least (marks_of ws n)) (marks_of ws m) 0

-- a broken one has no completion
abbrev broken : List ℕ → ℕ → Breach → ℕ → ℕ → Row
broken ws m b n count = judges ws (marks_of ws m) b none (marks_of ws n) count

abbrev proposed : List ℕ → ℕ → ℕ → Answer → Row
proposed ws m n a = proposes ws (marks_of ws m) (marks_of ws n) a

abbrev pub rows : List Row
rows =
    -- S1
    clean sample 00000000000 22222222222
    ∷ clean alphabetical 00000000000 22222222222
    -- S2
    ∷ broken sample 11020000000 (at InsertDelete 0 0 0 3 1 []) 12020000000 1
    ∷ broken alphabetical 01102000000 (at InsertDelete 3 0 0 4 1 []) 01202000000 1
    -- S3
    ∷ clean sample 11000000000 11111111111
    ∷ clean alphabetical 01100000000 11111111111
    -- S4
    ∷ clean sample 10020000000 12222222222
    ∷ clean alphabetical 01002000000 21222222222
    -- S5
    ∷ broken sample 00001201000 (at Chain 4 0 2 5 1 (0 ∷ 1 ∷ 2 ∷ [])) 00002201000 1
    ∷ broken alphabetical 00000120100 (at Chain 7 0 2 6 1 (0 ∷ 1 ∷ 2 ∷ [])) 00000220100 1
    -- S6
    ∷ clean sample 00001001000 22221121222
    ∷ clean alphabetical 00000100100 22222112122
    -- S7
    ∷ broken sample 00000001012 (at Cycle 4 2 2 10 1 (2 ∷ 1 ∷ 2 ∷ [])) 00000001022 1
    ∷ broken alphabetical 20000000101 (at Cycle 7 2 2 0 1 (2 ∷ 1 ∷ 2 ∷ [])) 20000000102 1
    -- S8
    ∷ clean sample 00000001010 22222221211
    ∷ clean alphabetical 00000000101 12222222121
    -- S9
    ∷ broken sample 11021201000 (at InsertDelete 0 0 0 3 2 []) 12022201000 2
    ∷ broken alphabetical 01102120100 (at InsertDelete 3 0 0 4 2 []) 01202220100 2
    -- S10, both ways
    ∷ proposed sample 11020000000 12020000000 (done 1)
    ∷ proposed alphabetical 01102000000 01202000000 (done 1)
    ∷ proposed sample 11020000000 11000000000 (refusal 15 3)
    ∷ proposed alphabetical 01102000000 01100000000 (refusal 15 4)
    -- S1 to S9 in format 2: of its privileges 2 is the exchange of a layer, and each row of replacements has one of its own kind
    ∷ clean sample_two 000_0_0_000_000_000_0 222_2_2_222_222_222_2
    ∷ broken sample_two 110_0_2_000_000_000_0 (at InsertDelete 0 0 0 4 1 []) 120_0_2_000_000_000_0 1
    ∷ clean sample_two 110_0_0_000_000_000_0 111_1_1_111_111_111_1
    ∷ clean sample_two 100_0_2_000_000_000_0 122_2_2_222_222_222_2
    ∷ broken sample_two 000_0_0_012_001_000_0 (at Chain 4 0 2 7 1 (0 ∷ 1 ∷ 2 ∷ [])) 000_0_0_022_001_000_0 1
    ∷ clean sample_two 000_0_0_010_001_000_0 222_2_2_211_221_222_2
    ∷ broken sample_two 000_0_0_000_001_010_2 (at Cycle 4 2 2 14 1 (2 ∷ 1 ∷ 2 ∷ [])) 000_0_0_000_001_020_2 1
    ∷ clean sample_two 000_0_0_000_001_010_0 222_2_2_222_211_211_1
    ∷ broken sample_two 110_0_2_012_001_000_0 (at InsertDelete 0 0 0 4 2 []) 120_0_2_022_001_000_0 2
    -- insert and delete are allowed, and the exchange is forbidden
    ∷ broken sample_two 112_0_0_000_000_000_0 (at InsertDelete 0 0 0 2 1 []) 122_0_0_000_000_000_0 1
    -- it is the privilege even if one below that is forbidden too has a lower number
    ∷ broken alphabetical_two 2_112_0_0_000_000_000 (at InsertDelete 3 0 0 3 1 []) 2_122_0_0_000_000_000 1
    -- the exchange alone is allowed, and a range below is forbidden
    ∷ broken sample_two 001_0_2_000_000_000_0 (at InsertDelete 0 0 0 4 1 []) 002_0_2_000_000_000_0 1
    -- all three are allowed: the star is mended twice
    ∷ broken sample_two 111_0_2_000_000_000_0 (at InsertDelete 0 0 0 4 1 []) 122_0_2_000_000_000_0 2
    -- the exchange alone opens what is below, and neither insert nor delete
    ∷ clean sample_two 001_0_0_000_000_000_0 221_1_1_111_111_111_1
    -- condition 2 at i = j: draft is reached from draft over held, and draft by draft is forbidden
    ∷ broken sample_two 000_0_0_210_100_000_0 (at Chain 4 0 0 5 1 (0 ∷ 1 ∷ 0 ∷ [])) 000_0_0_220_100_000_0 1
    -- with it unset the completion allows it, and held by held
    ∷ clean sample_two 000_0_0_010_100_000_0 222_2_2_112_112_222_2
    -- a same-kind step closes a cycle: final by final is allowed, and the text of final is forbidden
    ∷ broken sample_two 000_0_0_000_000_001_2 (at Cycle 4 2 2 14 1 (2 ∷ 2 ∷ [])) 000_0_0_000_000_002_2 1
    ∷ clean sample_two 000_0_0_000_000_001_0 222_2_2_222_222_221_1
    -- the lowest k is i itself: draft by draft is taken before draft by held
    ∷ broken sample_two 000_0_0_112_001_000_0 (at Chain 4 0 2 7 1 (0 ∷ 1 ∷ 2 ∷ [])) 000_0_0_222_001_000_0 2
    -- a mend of all three takes the delete and the exchange; the delete alone is not enough
    ∷ proposed sample_two 111_0_2_000_000_000_0 122_0_2_000_000_000_0 (done 2)
    ∷ proposed sample_two 111_0_2_000_000_000_0 121_0_2_000_000_000_0 (breached (at InsertDelete 0 0 0 4 1 []))
    ∷ []

abbrev pub Right : Row → Type 0
Right (judges ws m b o n count) = Verdict ws m b × Comes ws m o × Mends ws m n count
Right (proposes ws m n a) = ProposeAnswer ws m n a

-- a row with its answers computed anew
abbrev again : Row → Row
again (judges ws m b o n count) = let r = mend_by ws m in judges ws m (verdict_by ws m) (outcome_by ws m) r.marks r.count
again (proposes ws m n a) = proposes ws m n (propose_by ws m n)

again_right : (r : Row) → Right (again r)
again_right (judges ws m b o n count) = (verdict_by_lem ws m, outcome_by_lem ws m, mend_by_lem ws m)
again_right (proposes ws m n a) = propose_by_lem ws m n

computed : map again rows ≡ rows
unfolding sum_below rule_of rule_at children_at count_of gap_of privileges_at first_privilege privileges replace_of
computed = refl

pub samples : Each Right rows
samples = each_computed Right again again_right rows computed
