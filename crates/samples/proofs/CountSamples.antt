-- How many are forbidden below (document 02, order 8): what the question answers, and verdicts that pass the count on. One table of rows, and one
-- statement, proved by one computation. Every expected answer was worked out by hand. S1 to S10 have their counts in Samples. Assumes nothing.
use Prim.Native.Nat.{ℕ, zero, suc, ◌+◌}
use mathlib.Core.Path.{◌≡◌, refl}
use mathlib.Core.List.{List, [], ◌∷◌, ◌++◌, map}
use Rattle.table.specs.Sum.{sum_below}
use Rattle.table.specs.Rule.{rule_of, rule_at, children_at, count_of}
use Rattle.table.specs.Privilege.{gap_of, privileges_at, first_privilege, privileges, replace_of}
use Rattle.table.proofs.Tables.{Each, each_computed, marks_of, sample, alphabetical_two}
use Rattle.policy.specs.Marks.{Policy}
use Rattle.verdict.specs.Below.{ForbiddenTally}
use Rattle.verdict.specs.Breaches.{Verdict}
use Rattle.verdict.specs.declared.Breach.{Breach}
use Rattle.verdict.specs.declared.below.Tally.{Tally}
use Rattle.verdict.specs.declared.Condition.TheVariants.{InsertDelete}
use Rattle.verdict.proofs.PolicyTests.{policy, at, verdict_by, verdict_by_lem, tally_by, tally_by_lem}

-- a star over a sequence of two, each a sequence of the same text, whose privilege is 2
abbrev shared : List ℕ
shared =
    1 ∷ 28 ∷ 5 ∷ 0 ∷ 8 ∷ 5 ∷ 23 ∷ 3
    ∷ 4 ∷ 1 ∷ 0 ∷ 2 ∷ 2 ∷ 1 ∷ 2 ∷ 1 ∷ 3 ∷ 2 ∷ 1 ∷ 4 ∷ 1 ∷ 0 ∷ 5
    ∷ 1 ∷ 2 ∷ 3 ∷ 4 ∷ 4 ∷ []

-- k types one below the other, each a sequence of two that are sequences of the next one: 2 ways in each, the first of them at type t, its first child at
-- the index i of the child list
abbrev layers : ℕ → ℕ → List ℕ
layers zero i = []
layers (suc k) i = 2 ∷ 2 ∷ i ∷ 2 ∷ 1 ∷ (i + 2) ∷ 2 ∷ 1 ∷ (i + 3) ∷ layers k (i + 4)

abbrev ways : ℕ → ℕ → List ℕ
ways zero t = []
ways (suc k) t = (t + 1) ∷ (t + 2) ∷ (t + 3) ∷ (t + 3) ∷ ways k (t + 3)

-- a star over eight of them, and at the end a text, to which 256 paths lead: type 25, privilege 2
abbrev diamond : List ℕ
diamond = 1 ∷ 119 ∷ 26 ∷ 0 ∷ 8 ∷ 33 ∷ 86 ∷ 3 ∷ 4 ∷ 1 ∷ 0 ∷ layers 8 1 ++ (1 ∷ 0 ∷ 33 ∷ 1 ∷ ways 8 1)

-- n numbers from a on, n texts, and n times the same mark
abbrev pub from : ℕ → ℕ → List ℕ
from a zero = []
from a (suc n) = a ∷ from (a + 1) n

abbrev texts : ℕ → ℕ → List ℕ
texts zero i = []
texts (suc n) i = 1 ∷ 0 ∷ i ∷ texts n i

abbrev pub repeated : ℕ → ℕ → List ℕ
repeated zero mark = []
repeated (suc n) mark = mark ∷ repeated n mark

-- a star over thirty texts, in two sequences of fifteen: privileges 2 to 31
abbrev thirty : List ℕ
thirty = 1 ∷ 143 ∷ 34 ∷ 0 ∷ 8 ∷ 33 ∷ 110 ∷ 32 ∷ 4 ∷ 1 ∷ 0 ∷ 2 ∷ 2 ∷ 1 ∷ 2 ∷ 15 ∷ 3 ∷ 2 ∷ 15 ∷ 18 ∷ texts 30 33 ++ (1 ∷ from 2 32)

-- words and marks, with the verdict; or with a type and what is forbidden below it
pub data Row : Type 0 where
  judges : (words marks : List ℕ) → Breach → Row
  asks : (words marks : List ℕ) (type : ℕ) → Tally → Row

-- the star at type 0 is broken, by the privilege and as many
abbrev star : ℕ → ℕ → Breach
star p count = at InsertDelete 0 0 0 p count []

abbrev tally : ℕ → ℕ → Tally
tally lowest count = record { lowest = lowest; count = count }

abbrev pub rows : List Row
rows =
    -- two paths lead to the text: it is counted once
    judges shared (1 ∷ 1 ∷ 2 ∷ []) (star 2 1)
    ∷ asks shared (1 ∷ 1 ∷ 2 ∷ []) 1 (tally 2 1)
    -- a diamond of depth eight with one forbidden mark
    ∷ judges diamond (1 ∷ 1 ∷ 2 ∷ []) (star 2 1)
    ∷ asks diamond (1 ∷ 1 ∷ 2 ∷ []) 1 (tally 2 1)
    -- a star over thirty forbidden texts; of the second fifteen the lowest is 17
    ∷ judges thirty (1 ∷ 1 ∷ repeated 30 2) (star 2 30)
    ∷ asks thirty (1 ∷ 1 ∷ repeated 30 2) 3 (tally 17 15)
    -- S9: the range and draft by final below a layer, of which the latter is below its state; nothing below final
    ∷ asks sample (marks_of sample 11021201000) 0 (tally 3 2)
    ∷ asks sample (marks_of sample 11021201000) 1 (tally 3 2)
    ∷ asks sample (marks_of sample 11021201000) 4 (tally 5 1)
    ∷ asks sample (marks_of sample 11021201000) 7 (tally 0 0)
    -- a privilege 0 that is forbidden is not none: the text of final, alone and with the exchange of a layer
    ∷ asks alphabetical_two (marks_of alphabetical_two 2_112_0_0_000_000_000) 1 (tally 0 1)
    ∷ asks alphabetical_two (marks_of alphabetical_two 2_112_0_0_000_000_000) 3 (tally 0 2)
    ∷ []

abbrev pub Right : Row → Type 0
Right (judges ws m b) = Verdict ws m b
Right (asks ws m y r) = ForbiddenTally ws m y r

-- a row with its answer computed anew
abbrev again : Row → Row
again (judges ws m b) = judges ws m (verdict_by ws m)
again (asks ws m y r) = asks ws m y (tally_by ws m y)

again_right : (r : Row) → Right (again r)
again_right (judges ws m b) = verdict_by_lem ws m
again_right (asks ws m y r) = tally_by_lem ws m y

computed : map again rows ≡ rows
unfolding sum_below rule_of rule_at children_at count_of gap_of privileges_at first_privilege privileges replace_of
computed = refl

pub samples : Each Right rows
samples = each_computed Right again again_right rows computed

-- the three tables made here are tables, and their marks fit
pub shared_fits : Policy shared (1 ∷ 1 ∷ 2 ∷ [])
unfolding sum_below rule_of rule_at children_at count_of gap_of privileges_at first_privilege privileges replace_of
shared_fits = (policy shared (1 ∷ 1 ∷ 2 ∷ [])).out tt

pub diamond_fits : Policy diamond (1 ∷ 1 ∷ 2 ∷ [])
unfolding sum_below rule_of rule_at children_at count_of gap_of privileges_at first_privilege privileges replace_of
diamond_fits = (policy diamond (1 ∷ 1 ∷ 2 ∷ [])).out tt

pub thirty_fits : Policy thirty (1 ∷ 1 ∷ repeated 30 2)
unfolding sum_below rule_of rule_at children_at count_of gap_of privileges_at first_privilege privileges replace_of
thirty_fits = (policy thirty (1 ∷ 1 ∷ repeated 30 2)).out tt
