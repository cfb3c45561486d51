-- The chain of a breach (document 02, order 6). One table of rows, and one statement, proved by one computation. Every expected answer was worked out by
-- hand. The chains of S5 and S7 stand in Samples, and those of the papers' policies in verdict's PolicySamples. Assumes nothing.
use Prim.Native.Nat.{ℕ, zero, suc, ◌+◌, ◌-◌}
use mathlib.Core.Path.{◌≡◌, refl}
use mathlib.Core.List.{List, [], ◌∷◌, ◌++◌, map}
use Rattle.table.specs.Sum.{sum_below}
use Rattle.table.specs.Rule.{rule_of, rule_at, children_at, count_of}
use Rattle.table.specs.Privilege.{gap_of, privileges_at, first_privilege, privileges, replace_of}
use Rattle.table.proofs.Tables.{Each, each_computed, marks_of, four}
use Rattle.policy.specs.Marks.{Policy}
use Rattle.verdict.specs.Breaches.{Verdict}
use Rattle.verdict.specs.declared.Breach.{Breach}
use Rattle.verdict.specs.declared.Condition.TheVariants.{Chain, Cycle}
use Rattle.verdict.proofs.PolicyTests.{policy, at, verdict_by, verdict_by_lem}
use Rattle.samples.proofs.CountSamples.{from, repeated}

-- a choice of sixteen, the first a text, whose privilege is 240, and the others empty
abbrev wheel : List ℕ
wheel = 1 ∷ 75 ∷ 17 ∷ 0 ∷ 8 ∷ 16 ∷ 59 ∷ 241 ∷ 3 ∷ 16 ∷ 0 ∷ 1 ∷ 0 ∷ 16 ∷ empties 15 ++ from 1 16
  where
    empties : ℕ → List ℕ
    empties zero = []
    empties (suc n) = 0 ∷ 0 ∷ 16 ∷ empties n

-- each may be replaced by the next, the last by the first; all else is unset, but for the text, which is forbidden
abbrev steps : ℕ → ℕ → List ℕ
steps zero i = []
steps (suc k) i = repeated i 0 ++ 1 ∷ repeated (14 - i) 0 ++ steps k (i + 1)

abbrev round : List ℕ
round = steps 15 0 ++ 1 ∷ repeated 14 0 ++ 2 ∷ []

pub record Row : Type 0 where
  pub words : List ℕ
  pub marks : List ℕ
  pub breach : Breach

abbrev row : List ℕ → List ℕ → Breach → Row
row words marks b = record { words = words; marks = marks; breach = b }

abbrev pub rows : List Row
rows =
    -- 0 by 1, 0 by 2, 1 by 3 and 2 by 3 are allowed, and 0 by 3 is forbidden: of two equally short chains the lower is told
    row four (marks_of four 112_001_001_000) (at Chain 0 0 3 2 1 (0 ∷ 1 ∷ 3 ∷ []))
    -- 3 by 1, 1 by 2, 3 by 2 and 2 by 0 are allowed, and 3 by 0 is forbidden: the short chain over 2, not the longer one over 1
    ∷ row four (marks_of four 000_010_100_211) (at Chain 0 3 0 9 1 (3 ∷ 2 ∷ 0 ∷ []))
    -- a cycle of sixteen: 17 positions
    ∷ row wheel round (at Cycle 0 0 0 240 1 (from 0 16 ++ 0 ∷ []))
    ∷ []

abbrev pub Right : Row → Type 0
Right r = Verdict r.words r.marks r.breach

-- a row with its verdict computed anew
abbrev again : Row → Row
again r = row r.words r.marks (verdict_by r.words r.marks)

computed : map again rows ≡ rows
unfolding sum_below rule_of rule_at children_at count_of gap_of privileges_at first_privilege privileges replace_of
computed = refl

pub samples : Each Right rows
samples = each_computed Right again (λ r. verdict_by_lem r.words r.marks) rows computed

-- the table made here is a table, and its marks fit
pub wheel_fits : Policy wheel round
unfolding sum_below rule_of rule_at children_at count_of gap_of privileges_at first_privilege privileges replace_of
wheel_fits = (policy wheel round).out tt
