-- What checking a run of words answers, for the tables of document 01 and for one at least of each number: one table of rows, and one
-- statement, proved by one computation. Every expected answer was worked out by hand. Assumes nothing.
use Prim.Native.Nat.{ℕ, zero, suc, ◌+◌, ◌*◌}
use mathlib.Core.Path.{◌≡◌, refl}
use mathlib.Core.List.{List, [], ◌∷◌, ◌++◌, map}
use lib.ListN.{get_or}
use Rattle.table.specs.Sum.{sum_below}
use Rattle.table.specs.Rule.{rule_of, rule_at, children_at, count_of}
use Rattle.table.specs.Privilege.{gap_of, privileges_at, first_privilege, privileges}
use Rattle.table.specs.Check.{TableAnswer}
use Rattle.table.specs.Renumbered.{blocks, renumber}
use Rattle.table.proofs.TableTests.{answer_of, answer_of_lem}
use Rattle.table.proofs.Tables.{Each, each_computed, sample_in, sample, sample_two, alphabetical, lone}

-- words, and the number and the place of their answer
pub record Row : Type 0 where
  pub words : List ℕ
  pub number : ℕ
  pub place : ℕ

abbrev row : List ℕ → ℕ → ℕ → Row
row words number place = record { words = words; number = number; place = place }

-- n numbers from a on
abbrev from : ℕ → ℕ → List ℕ
from a zero = []
from a (suc n) = a ∷ from (a + 1) n

-- n records of a childless kind, with the running index
abbrev leaves : ℕ → ℕ → ℕ → List ℕ
leaves kind index zero = []
leaves kind index (suc n) = kind ∷ 0 ∷ index ∷ leaves kind index n

-- in this format, a type of this kind with n empty types for children, and V
abbrev fan : ℕ → ℕ → ℕ → ℕ → List ℕ
fan format kind n v = format ∷ (11 + 4 * n) ∷ (1 + n) ∷ 0 ∷ 8 ∷ n ∷ (11 + 3 * n) ∷ v ∷ kind ∷ n ∷ 0 ∷ leaves 0 n n ++ from 1 n

-- in this format, n choices, each of the 16 types that follow it, then 16 childless types of this kind, and V
abbrev choices : ℕ → ℕ → List ℕ
choices index zero = []
choices index (suc n) = 3 ∷ 16 ∷ index ∷ choices (index + 16) n

abbrev followers : ℕ → ℕ → List ℕ
followers t zero = []
followers t (suc n) = from (t + 1) 16 ++ followers (t + 1) n

abbrev ladder : ℕ → ℕ → ℕ → ℕ → List ℕ
ladder format kind n v = format ∷ (56 + 19 * n) ∷ (16 + n) ∷ 0 ∷ 8 ∷ (16 * n) ∷ (56 + 3 * n) ∷ v ∷ choices 0 n ++ leaves kind (16 * n) 16 ++ followers 0 n

abbrev pub rows : List Row
rows =
    -- the sample schema
    row sample 0 11
    -- in format 2
    ∷ row sample_two 0 15
    -- its types in alphabetical order
    ∷ row alphabetical 0 11
    -- a lone empty type
    ∷ row lone 0 0
    -- a choice of one child has no privilege
    ∷ row (1 ∷ 15 ∷ 2 ∷ 0 ∷ 8 ∷ 1 ∷ 14 ∷ 0 ∷ 3 ∷ 1 ∷ 0 ∷ 0 ∷ 0 ∷ 1 ∷ 1 ∷ []) 0 0
    -- a choice of 16 children has 16 times 15
    ∷ row (fan 1 3 16 240) 0 240
    -- in format 2 a choice of one child has one, and a choice of 16 children 16 times 16; a star has three
    ∷ row (fan 2 3 1 1) 0 1
    ∷ row (fan 2 3 16 256) 0 256
    ∷ row (fan 2 4 1 3) 0 3
    -- a sequence of 16 children
    ∷ row (fan 1 2 16 0) 0 0
    -- 17 choices of 16 children and 16 texts: V is 4,096
    ∷ row (ladder 1 1 17 4096) 0 4096
    -- 16 choices of 16 children and 16 empty types in format 2: V is 4,096
    ∷ row (ladder 2 0 16 4096) 0 4096
    -- seven words
    ∷ row (1 ∷ 11 ∷ 1 ∷ 0 ∷ 8 ∷ 0 ∷ 11 ∷ []) 1 0
    -- word 0 is 3, and 0
    ∷ row (3 ∷ 11 ∷ 1 ∷ 0 ∷ 8 ∷ 0 ∷ 11 ∷ 0 ∷ 0 ∷ 0 ∷ 0 ∷ []) 1 0
    ∷ row (0 ∷ 11 ∷ 1 ∷ 0 ∷ 8 ∷ 0 ∷ 11 ∷ 0 ∷ 0 ∷ 0 ∷ 0 ∷ []) 1 0
    -- the root is 1 where E is 1
    ∷ row (1 ∷ 11 ∷ 1 ∷ 1 ∷ 8 ∷ 0 ∷ 11 ∷ 0 ∷ 0 ∷ 0 ∷ 0 ∷ []) 2 0
    -- a run one word short of word 1
    ∷ row (1 ∷ 11 ∷ 1 ∷ 0 ∷ 8 ∷ 0 ∷ 11 ∷ 0 ∷ 0 ∷ 0 ∷ []) 2 0
    -- no type at all
    ∷ row (1 ∷ 8 ∷ 0 ∷ 0 ∷ 8 ∷ 0 ∷ 8 ∷ 0 ∷ []) 2 0
    -- kind 5 at type 1
    ∷ row (1 ∷ 15 ∷ 2 ∷ 0 ∷ 8 ∷ 1 ∷ 14 ∷ 0 ∷ 2 ∷ 1 ∷ 0 ∷ 5 ∷ 0 ∷ 1 ∷ 1 ∷ []) 3 1
    -- a star of two at type 0 and kind 5 at types 1 and 2: the lower number, then the lower place
    ∷ row (1 ∷ 19 ∷ 3 ∷ 0 ∷ 8 ∷ 2 ∷ 17 ∷ 0 ∷ 4 ∷ 2 ∷ 0 ∷ 5 ∷ 0 ∷ 2 ∷ 5 ∷ 0 ∷ 2 ∷ 1 ∷ 2 ∷ []) 3 1
    -- a choice of 17 children
    ∷ row (fan 1 3 17 272) 4 0
    -- a sequence of no child
    ∷ row (fan 1 2 0 0) 4 0
    -- a star of two
    ∷ row (fan 1 4 2 2) 4 0
    -- a text with a child, at type 1
    ∷ row (1 ∷ 16 ∷ 2 ∷ 0 ∷ 8 ∷ 2 ∷ 14 ∷ 1 ∷ 2 ∷ 1 ∷ 0 ∷ 1 ∷ 1 ∷ 1 ∷ 1 ∷ 1 ∷ []) 4 1
    -- type 1 carries 0 where the running index is 1
    ∷ row (1 ∷ 15 ∷ 2 ∷ 0 ∷ 8 ∷ 1 ∷ 14 ∷ 0 ∷ 2 ∷ 1 ∷ 0 ∷ 0 ∷ 0 ∷ 0 ∷ 1 ∷ []) 5 1
    -- a total of 1 where C is 2: the place is E
    ∷ row (1 ∷ 16 ∷ 2 ∷ 0 ∷ 8 ∷ 2 ∷ 14 ∷ 0 ∷ 2 ∷ 1 ∷ 0 ∷ 0 ∷ 0 ∷ 1 ∷ 1 ∷ 1 ∷ []) 5 2
    -- a total of 2 where C is 1
    ∷ row (1 ∷ 15 ∷ 2 ∷ 0 ∷ 8 ∷ 1 ∷ 14 ∷ 0 ∷ 2 ∷ 2 ∷ 0 ∷ 0 ∷ 0 ∷ 2 ∷ 1 ∷ []) 5 2
    -- child 2 where E is 2
    ∷ row (1 ∷ 15 ∷ 2 ∷ 0 ∷ 8 ∷ 1 ∷ 14 ∷ 0 ∷ 2 ∷ 1 ∷ 0 ∷ 0 ∷ 0 ∷ 1 ∷ 2 ∷ []) 6 0
    -- type 1 has child 2 twice
    ∷ row (1 ∷ 20 ∷ 3 ∷ 0 ∷ 8 ∷ 3 ∷ 17 ∷ 0 ∷ 2 ∷ 1 ∷ 0 ∷ 2 ∷ 2 ∷ 1 ∷ 0 ∷ 0 ∷ 3 ∷ 1 ∷ 2 ∷ 2 ∷ []) 7 1
    -- a star whose child's number is its own
    ∷ row (1 ∷ 12 ∷ 1 ∷ 0 ∷ 8 ∷ 1 ∷ 11 ∷ 2 ∷ 4 ∷ 1 ∷ 0 ∷ 0 ∷ []) 19 0
    -- types 0 and 1, each the other's child
    ∷ row (1 ∷ 16 ∷ 2 ∷ 0 ∷ 8 ∷ 2 ∷ 14 ∷ 0 ∷ 2 ∷ 1 ∷ 0 ∷ 2 ∷ 1 ∷ 1 ∷ 1 ∷ 0 ∷ []) 19 0
    -- type 1 is its own child, and type 0 has it below it
    ∷ row (1 ∷ 16 ∷ 2 ∷ 0 ∷ 8 ∷ 2 ∷ 14 ∷ 0 ∷ 2 ∷ 1 ∷ 0 ∷ 2 ∷ 1 ∷ 1 ∷ 1 ∷ 1 ∷ []) 19 1
    -- types 1 and 2 are each the other's child, and the root reaches neither; word 7 is wrong too
    ∷ row (1 ∷ 19 ∷ 3 ∷ 0 ∷ 8 ∷ 2 ∷ 17 ∷ 9 ∷ 0 ∷ 0 ∷ 0 ∷ 2 ∷ 1 ∷ 0 ∷ 2 ∷ 1 ∷ 1 ∷ 2 ∷ 1 ∷ []) 19 1
    -- a lone empty type and a second, which is nobody's child
    ∷ row (1 ∷ 14 ∷ 2 ∷ 0 ∷ 8 ∷ 0 ∷ 14 ∷ 0 ∷ 0 ∷ 0 ∷ 0 ∷ 0 ∷ 0 ∷ 0 ∷ []) 8 1
    -- type 0 has type 1 as its child, and type 1 is the root
    ∷ row (1 ∷ 15 ∷ 2 ∷ 1 ∷ 8 ∷ 1 ∷ 14 ∷ 0 ∷ 2 ∷ 1 ∷ 0 ∷ 0 ∷ 0 ∷ 1 ∷ 1 ∷ []) 8 0
    -- the sample schema, with 12 in word 7
    ∷ row (sample_in 1 12) 9 0
    -- 18 choices of 16 children and 16 texts: V is 4,336, and word 7 says so
    ∷ row (ladder 1 1 18 4336) 9 0
    -- in format 2, 17 choices of 16 children and 16 empty types: V is 4,352, and word 7 says so
    ∷ row (ladder 2 0 17 4352) 9 0
    -- V as in the other format
    ∷ row (sample_in 1 15) 9 0
    ∷ row (sample_in 2 11) 9 0
    ∷ []

abbrev pub Right : Row → Type 0
Right r = TableAnswer r.words r.number r.place

-- a row with its answer computed anew
abbrev again : Row → Row
again r = let answer = answer_of r.words in row r.words answer.number answer.place

computed : map again rows ≡ rows
unfolding sum_below rule_of rule_at children_at count_of gap_of privileges_at first_privilege privileges
computed = refl

pub samples : Each Right rows
samples = each_computed Right again (λ r. answer_of_lem r.words) rows computed

-- the sample schema in alphabetical order is the sample schema renumbered
pub by_name : renumber (λ t. get_or (3 ∷ 4 ∷ 5 ∷ 6 ∷ 7 ∷ 0 ∷ 2 ∷ 1 ∷ []) t 0) (λ t. get_or (5 ∷ 7 ∷ 6 ∷ 0 ∷ 1 ∷ 2 ∷ 3 ∷ 4 ∷ []) t 0) sample ≡ alphabetical
unfolding renumber blocks sum_below rule_of rule_at children_at
by_name = refl
