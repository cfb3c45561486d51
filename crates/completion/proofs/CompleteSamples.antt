-- The least completion of sample policies, or that there is none: the example of document 000, section 4.1. One table of rows, and one
-- statement, proved by one computation. Every expected answer was worked out by hand. S1 to S10 stand in crate samples. Assumes nothing.
use Rattle.std.proofs.Common.{ℕ, ◌≡◌, refl, List, [], ◌∷◌, map}
use Rattle.table.specs.Sum.{sum_below}
use Rattle.table.specs.Rule.{rule_of, rule_at, children_at, count_of}
use Rattle.table.specs.Privilege.{gap_of, privileges_at, first_privilege, privileges, replace_of}
use Rattle.table.proofs.Tables.{Each, each_computed, marks_of, sample, figure}
use Rattle.completion.proofs.Granting.{Outcome, unfit, none, least, Comes, outcome_by, outcome_by_lem}

pub record Row : Type 0 where
  pub words : List ℕ
  pub marks : List ℕ
  pub outcome : Outcome

abbrev row : List ℕ → ℕ → Outcome → Row
row words n o = record { words = words; marks = marks_of words n; outcome = o }

abbrev completed : List ℕ → ℕ → ℕ → Row
completed words n c = row words n (least (marks_of words c))

abbrev pub rows : List Row
rows =
    -- document 000, section 4.1: the insert and delete of E at B are allowed, the text of H is denied: not quasiconsistent. Below E are its own
    -- 21 and 22, G's 24 and 25, and the texts of H and I, 26 and 27
    row figure 000_000_000_000_11_00_0_00_00_00_0_00_2_0 none
    -- "because any consistent extension of the policy has to allow" that text: with it unset, the least allows it, as all that is below E
    ∷ completed figure 000_000_000_000_11_00_0_00_00_00_0_00_0_0 222_222_222_222_11_22_2_22_22_11_2_11_1_1
    -- a mark of 3 makes no policy
    ∷ row sample 30000000000 unfit
    ∷ []

abbrev pub Right : Row → Type 0
Right r = Comes r.words r.marks r.outcome

-- a row with its outcome computed anew
abbrev again : Row → Row
again r = record { words = r.words; marks = r.marks; outcome = outcome_by r.words r.marks }

computed : map again rows ≡ rows
unfolding sum_below rule_of rule_at children_at count_of gap_of privileges_at first_privilege privileges replace_of
computed = refl

pub samples : Each Right rows
samples = each_computed Right again (λ r. outcome_by_lem r.words r.marks) rows computed
