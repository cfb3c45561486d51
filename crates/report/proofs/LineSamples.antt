-- The verdict's lines of S2, S5 and S7 (document 01): those of conditions 2 and 3 go on with the positions of the chain, and that of condition 1 ends where
-- it did (document 02, order 6). Assumes nothing.
use Rattle.std.proofs.Common.{ℕ, ◌+◌, ◌≡◌, refl, subst, List, [], ◌∷◌, ◌++◌, map}
use Rattle.table.specs.Sum.{sum_below}
use Rattle.table.specs.Rule.{rule_of, rule_at, children_at, count_of}
use Rattle.table.specs.Privilege.{gap_of, privileges_at, first_privilege, privileges, replace_of}
use Rattle.table.proofs.Tables.{marks_of, sample}
use Rattle.verdict.proofs.PolicyTests.{verdict_by, verdict_by_lem}
use Rattle.lines.specs.Text.{line, decimal_within, numbers, marks_text}
use Rattle.report.specs.Report.{verdict_word, numbers_of, VerdictLine}

-- runs of digits, each behind a blank, and the line's end
abbrev digits : List (List ℕ) → List ℕ
digits [] = 10 ∷ []
digits (ds ∷ rest) = 32 ∷ map (λ d. 48 + d) ds ++ digits rest

abbrev one : ℕ → List ℕ
one d = d ∷ []

told : {marks text : List ℕ} → line verdict_word (numbers_of (verdict_by sample marks)) [] ≡ text → VerdictLine sample marks text
told {marks} e = subst (VerdictLine sample marks) e (VerdictLine.judged (verdict_by_lem sample marks) refl)

-- S2: `verdict 1 0 0 0 3`
pub s2 : VerdictLine sample (marks_of sample 11020000000) (verdict_word ++ digits (map one (1 ∷ 0 ∷ 0 ∷ 0 ∷ 3 ∷ [])))
unfolding sum_below rule_of rule_at children_at count_of gap_of privileges_at first_privilege privileges replace_of decimal_within numbers marks_text
s2 = told refl

-- S5: `verdict 2 4 0 2 5 0 1 2`
pub s5 : VerdictLine sample (marks_of sample 00001201000) (verdict_word ++ digits (map one (2 ∷ 4 ∷ 0 ∷ 2 ∷ 5 ∷ 0 ∷ 1 ∷ 2 ∷ [])))
unfolding sum_below rule_of rule_at children_at count_of gap_of privileges_at first_privilege privileges replace_of decimal_within numbers marks_text
s5 = told refl

-- S7: `verdict 3 4 2 2 10 2 1 2`
pub s7 : VerdictLine sample (marks_of sample 00000001012) (verdict_word ++ digits (map one (3 ∷ 4 ∷ 2 ∷ 2 ∷ []) ++ (1 ∷ 0 ∷ []) ∷ map one (2 ∷ 1 ∷ 2 ∷ [])))
unfolding sum_below rule_of rule_at children_at count_of gap_of privileges_at first_privilege privileges replace_of decimal_within numbers marks_text
s7 = told refl
