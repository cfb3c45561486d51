-- The verdict on sample policies: a chain of four kinds, and the policies of documents 000 and 003. One table of rows, and one statement,
-- proved by one computation. Every expected answer was worked out by hand from the documents. S1 to S10 stand in crate samples. Assumes nothing.
use Rattle.std.proofs.Common.{ℕ, ◌≡◌, refl, Bool, true, ◌&&◌, List, [], ◌∷◌, map, T}
use Rattle.table.specs.Sum.{sum_below}
use Rattle.table.specs.Rule.{rule_of, rule_at, children_at, count_of}
use Rattle.table.specs.Privilege.{gap_of, privileges_at, first_privilege, privileges, replace_of}
use Rattle.table.proofs.Tables.{Each, each_computed, marks_of, lone, four, figure, hospital}
use Rattle.table.specs.HowMany.{HowMany}
use Rattle.table.proofs.HowMany.{how_many}
use Rattle.table.proofs.Test.{Test, both, and_out}
use Rattle.policy.specs.Marks.{Policy}
use Rattle.verdict.specs.Breaches.{no_breach, IsBreach, ChainAt, Verdict, spot_of, chain_in}
use Rattle.verdict.specs.declared.Breach.{Breach}
use Rattle.verdict.specs.declared.Condition.TheVariants.{InsertDelete, Chain, Cycle}
use Rattle.verdict.proofs.PolicyTests.{policy, breach, steps_by, steps_by_lem, at, verdict_by, verdict_by_lem}

pub record Row : Type 0 where
  pub words : List ℕ
  pub marks : List ℕ
  pub breach : Breach

abbrev row : List ℕ → ℕ → Breach → Row
row words n b = record { words = words; marks = marks_of words n; breach = b }

abbrev pub rows : List Row
rows =
    -- a table with no privilege
    row lone 0 no_breach
    -- a chain of four kinds: 0 by 1, 1 by 2 and 2 by 3 are allowed, 0 by 3 is forbidden, the shorter cuts are unset
    ∷ row four 102_010_001_000 (at Chain 0 0 3 2 1 (0 ∷ 1 ∷ 2 ∷ 3 ∷ []))
    -- document 000, examples 2 and 3: A by B, B by J, J by K, K by B and K by J are allowed at R, the insert and delete of every star, I by H
    -- at G, and every text; all else is forbidden. R is the lowest type that is broken, chains come before cycles, and A by B is allowed: first
    -- is A by J, over B
    ∷ row figure 122_212_221_211_11_11_1_11_11_11_1_21_1_1 (at Chain 0 0 2 1 1 (0 ∷ 1 ∷ 2 ∷ []))
    -- example 8: B by J and J by K taken away, there is nothing left at R; at B the insert and delete of E remain, with H by I below E
    ∷ row figure 122_222_222_211_11_11_1_11_11_11_1_21_1_1 (at InsertDelete 2 0 0 24 1 [])
    -- example 5: the deletes of B, J and E taken away too, nothing is left; below C and D nothing is forbidden
    ∷ row figure 122_222_222_211_12_12_1_11_11_12_1_21_1_1 no_breach
    -- section 4.1: a partial policy that allows the insert and delete of E at B and denies the text of H has no consistent extension
    ∷ row figure 000_000_000_000_11_00_0_00_00_00_0_00_2_0 (at InsertDelete 2 0 0 26 1 [])
    -- document 003, table 1: a patient may be deleted and inserted; seven are forbidden below, and of them the name has the lowest
    -- number (its I1)
    ∷ row hospital 11_2_12_21_21_21_2_1_2_1 (at InsertDelete 0 0 0 2 7 [])
    -- section 3.2: the delete of a patient forbidden, what is left at drug is first placebo by presDrug, over OTC (its I3)
    ∷ row hospital 12_2_12_21_21_21_2_1_2_1 (at Chain 5 0 1 5 1 (0 ∷ 2 ∷ 1 ∷ []))
    -- the naive algorithm's first step there, placebo by OTC forbidden: the cycle of presDrug and OTC, with the text of presDrug (its I2)
    ∷ row hospital 12_2_12_22_21_21_2_1_2_1 (at Cycle 5 1 1 13 1 (1 ∷ 2 ∷ 1 ∷ []))
    -- the repair of the text: the delete of a patient and OTC by presDrug forbidden
    ∷ row hospital 12_2_12_21_21_22_2_1_2_1 no_breach
    ∷ []

abbrev pub Right : Row → Type 0
Right r = Verdict r.words r.marks r.breach

-- a row with its verdict computed anew
abbrev again : Row → Row
again r = record { words = r.words; marks = r.marks; breach = verdict_by r.words r.marks }

computed : map again rows ≡ rows
unfolding sum_below rule_of rule_at children_at count_of gap_of privileges_at first_privilege privileges replace_of
computed = refl

pub samples : Each Right rows
samples = each_computed Right again (λ r. verdict_by_lem r.words r.marks) rows computed

-- a test of each row
abbrev all : {P : Row → Type 0} → ((r : Row) → Test (P r)) → List Row → Bool
all t [] = true
all t (r ∷ rs) = let rest = all t rs in (t r).run && rest

each_by : {P : Row → Type 0} (t : (r : Row) → Test (P r)) (rs : List Row) → T (all t rs) → Each P rs
each_by t [] h = tt
each_by t (r ∷ rs) h = let b = and_out (t r).run (all t rs) h in ((t r).out b.0, each_by t rs b.1)

-- the words of each row are a table, and its marks fit
pub policies : Each (λ r. Policy r.words r.marks) rows
unfolding sum_below rule_of rule_at children_at count_of gap_of privileges_at first_privilege privileges replace_of
policies = each_by (λ r. policy r.words r.marks) rows tt

-- the breaches that the two papers name in their first policies
abbrev pub named : List Row
named =
    -- document 000, example 3, condition 1: the insert and delete of G at E, with H by I forbidden below G
    example (at InsertDelete 7 0 0 24 1 [])
    -- condition 2: A by J, A by K and B by K are forbidden
    ∷ example (at Chain 0 0 2 1 1 (0 ∷ 1 ∷ 2 ∷ []))
    ∷ example (at Chain 0 0 3 2 1 (0 ∷ 1 ∷ 2 ∷ 3 ∷ []))
    ∷ example (at Chain 0 1 3 5 1 (1 ∷ 2 ∷ 3 ∷ []))
    -- condition 3: B and J are in cycles at R, with H by I forbidden below both
    ∷ example (at Cycle 0 1 1 24 1 (1 ∷ 2 ∷ 3 ∷ 1 ∷ []))
    ∷ example (at Cycle 0 2 2 24 1 (2 ∷ 3 ∷ 2 ∷ []))
    -- examples 4 and 5: B and J, as E
    ∷ example (at InsertDelete 2 0 0 24 1 [])
    ∷ example (at InsertDelete 3 0 0 24 1 [])
    -- example 7: J by B, over K
    ∷ example (at Chain 0 2 1 7 1 (2 ∷ 3 ∷ 1 ∷ []))
    -- document 003: I1, and the delete of a treatment in figure 4
    ∷ table1 (at InsertDelete 0 0 0 2 7 [])
    ∷ table1 (at InsertDelete 0 0 0 4 7 [])
    -- I2 and I3
    ∷ table1 (at Cycle 5 1 1 13 1 (1 ∷ 2 ∷ 1 ∷ []))
    ∷ table1 (at Chain 5 0 1 5 1 (0 ∷ 2 ∷ 1 ∷ []))
    ∷ []
  where
    example : Breach → Row
    example b = row figure 122_212_221_211_11_11_1_11_11_11_1_21_1_1 b

    table1 : Breach → Row
    table1 b = row hospital 11_2_12_21_21_21_2_1_2_1 b

-- each is one, and as many privileges break its spot
abbrev Named : Row → Type 0
Named r = let s = spot_of r.breach in IsBreach r.words r.marks s r.breach.privilege × HowMany (IsBreach r.words r.marks s) (privileges r.words) r.breach.forbidden

abbrev named_test : (r : Row) → Test (Named r)
named_test r =
    let t : (p : ℕ) → Test (IsBreach r.words r.marks (spot_of r.breach) p) = breach r.words r.marks (spot_of r.breach) in
    both (t r.breach.privilege) (how_many (privileges r.words) r.breach.forbidden t)

pub breaches : Each Named named
unfolding sum_below rule_of rule_at children_at count_of gap_of privileges_at first_privilege privileges replace_of
breaches = each_by named_test named tt

-- with its chain, as it is computed anew
abbrev Shows : Row → Type 0
Shows r = (p : ℕ) → IsBreach r.words r.marks (spot_of r.breach) p → ChainAt r.words r.marks (spot_of r.breach) (chain_in r.breach)

abbrev shown : Row → Row
shown r =
    let b = r.breach in
    let ps = steps_by r.words r.marks b.condition (spot_of b) in
    record { words = r.words; marks = r.marks; breach = at b.condition b.element b.i b.j b.privilege b.forbidden ps }

shows : (r : Row) → Shows (shown r)
shows r p h = let b = r.breach in record { positions = steps_by r.words r.marks b.condition (spot_of b); steps = steps_by_lem r.words r.marks b.condition (spot_of b) p h; are = refl }

chains_computed : map shown named ≡ named
unfolding sum_below rule_of rule_at children_at count_of gap_of privileges_at first_privilege privileges replace_of
chains_computed = refl

pub chains : Each Shows named
chains = each_computed Shows shown shows named chains_computed
