-- The monthly sheet (document 02, order 12) of ten roles on the sample schema: S1 to S9 of document 01, and one with a mark of 3. Its figures, leaders and
-- counts were worked out by hand from the marks, and are proved by one computation; what a call answers follows by law. The figures add up to 11: S9's first
-- breach is of condition 1, and it breaks condition 2 too. Assumes nothing.
use Prim.Native.Nat.{ℕ, ◌+◌, ◌*◌, ◌≤◌}
use mathlib.Core.Path.{◌≡◌, refl, sym}
use mathlib.Core.List.{List, [], ◌∷◌, ◌++◌}
use native.Mathlib.Omega.{arith}
use lib.ListN.{length, drop, length-append, length-drop, get_or-append}
use lib.Seq.{drop_at}
use Rattle.table.specs.Sum.{sum_below}
use Rattle.table.specs.Rule.{rule_of, rule_at, children_at, count_of}
use Rattle.table.specs.Privilege.{gap_of, privileges_at, first_privilege, privileges, replace_of}
use Rattle.table.specs.Check.{Accepted}
use Rattle.table.proofs.Tables.{marks_of, sample}
use Rattle.verdict.proofs.PolicyTests.{accepted_out}
use Rattle.leaders.proofs.Leading.{leaders_as}
use Rattle.sheet.specs.Sheets.{SheetOf}
use Rattle.sheet.specs.Answers.{MonthAnswer, done}
use Rattle.sheet.specs.declared.Sheet.{Sheet}
use Rattle.sheet.proofs.Answers.{month_one}
use Rattle.samples.proofs.SheetTests.{sheet_of}

-- the roles' marks one after another
abbrev pub show : List ℕ
show = marks_of sample 00000000000 ++ marks_of sample 11020000000 ++ marks_of sample 11000000000 ++ marks_of sample 10020000000
    ++ marks_of sample 00001201000 ++ marks_of sample 00001001000 ++ marks_of sample 00000001012 ++ marks_of sample 00000001010
    ++ marks_of sample 11021201000 ++ marks_of sample 00003000000

-- S1, S3, S4, S6 and S8 are clean; S2 and S9 break condition 1, S5 and S9 condition 2, S7 condition 3. Privilege 7 is allowed in five roles, 0 in four, 1
-- and 4 in three each
abbrev pub sheet : Sheet
sheet = record {
  number = 0;
  place = 0;
  figures = record { clean = 5; insert_delete = 2; chain = 2; cycle = 1; refused = 1 };
  leader_count = 3;
  leaders = 7 ∷ 0 ∷ 1 ∷ [];
}

-- in how many of the nine roles that are not refused each privilege is allowed, forbidden, unset
abbrev pub counts : List ℕ
counts =
    4 ∷ 0 ∷ 5
    ∷ 3 ∷ 0 ∷ 6
    ∷ 0 ∷ 0 ∷ 9
    ∷ 0 ∷ 3 ∷ 6
    ∷ 3 ∷ 0 ∷ 6
    ∷ 0 ∷ 2 ∷ 7
    ∷ 0 ∷ 0 ∷ 9
    ∷ 5 ∷ 0 ∷ 4
    ∷ 0 ∷ 0 ∷ 9
    ∷ 2 ∷ 0 ∷ 7
    ∷ 0 ∷ 1 ∷ 8
    ∷ []

pub ten_roles : SheetOf sample 10 show sheet counts
unfolding sum_below rule_of rule_at children_at count_of gap_of privileges_at first_privilege privileges replace_of
ten_roles = (sheet_of sample 10 show sheet counts).out tt

-- the words are a table, with 11 privileges, and there are as many marks for each role
accepted : Accepted sample
unfolding sum_below rule_of rule_at children_at count_of gap_of privileges_at first_privilege privileges
accepted = accepted_out refl

three_each : 3 * privileges sample ≡ 33
unfolding sum_below rule_of rule_at gap_of privileges_at first_privilege privileges
three_each = refl

ten_stretches : length show ≡ 10 * privileges sample
unfolding sum_below rule_of rule_at gap_of privileges_at first_privilege privileges
ten_stretches = refl

-- a sheet is that of counts with more behind them too
sheet_longer : {ws : List ℕ} {roles : ℕ} {marks : List ℕ} {s : Sheet} (x rest : List ℕ) → 3 * privileges ws ≤ length x → SheetOf ws roles marks s x
    → SheetOf ws roles marks s (x ++ rest)
sheet_longer x rest l h = record {
  figures = h.figures;
  numbers = record { each = λ p k i j. rw (get_or-append x rest 0 (3 * p + k) (omega arith)) (h.numbers.each p k i j) };
  leaders = leaders_as (λ p i. sym (get_or-append x rest 0 (3 * p) (omega arith))) h.leaders;
}

module _ {lent : List ℕ} (room : 33 ≤ length lent) where
  -- a call that is lent 33 numbers or more answers this sheet, and leaves the counts in the first 33 and the others as they were
  pub ten_roles_answer : MonthAnswer sample 10 show lent sheet (counts ++ drop 33 lent)
  ten_roles_answer = done accepted ten_stretches (omega (arith, three_each)) refl refl (sheet_longer counts (drop 33 lent) (omega (arith, three_each)) ten_roles)
      (record { size = omega (arith, length-append counts (drop 33 lent), length-drop 33 lent); rest = rw three_each (drop_at counts (drop 33 lent) 33 refl) })

  -- and nothing else
  pub ten_roles_one : {t : Sheet} {after : List ℕ} → MonthAnswer sample 10 show lent t after → (t ≡ sheet) × (after ≡ counts ++ drop 33 lent)
  ten_roles_one a = month_one a ten_roles_answer
