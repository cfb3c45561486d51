-- The answer of a table check: there is one for each run of words, and number 0 means an accepted table. Assumes nothing.
use Prim.Native.Nat.{ℕ, suc, ◌+◌, ◌≤◌, ◌<◌}
use mathlib.Core.Path.{◌≡◌, refl, sym, ap, ◌∙◌}
use mathlib.Core.Logic.{◌⊎◌, inl, inr, ◌≢◌}
use mathlib.Core.List.{List, [], ◌∷◌}
use native.Mathlib.Nat.{eq-or-lt_of_le}
use native.Mathlib.Omega.{arith}
use lib.ListN.{get_or}
use Rattle.table.specs.Lowest.{LowestAt}
use Rattle.table.specs.Privilege.{privileges}
use Rattle.table.specs.Check.{number_of, rank_of, Passes, Refused, Accepted, TableAnswer, refused, accepted}
use Rattle.table.specs.Refusals as refusals
use Rattle.table.specs.declared.refusal.Refusal.{Refusal}
use Rattle.table.specs.declared.refusal.Refusal.TheVariants.{Table, NewTable, MarksLength, NoPrivilege, Mark, ResultLength, ProposedLength, ProposedMark, ProposedSpareBit, Change, NumbersLength, NewNumber, NoText, TooLarge, Misnamed, BothSet, SpareBit, NoLine, NotAbove, RefusedSheet, SumTooLarge}
use Rattle.table.specs.declared.check.TheConstants.{CHECKS}
use Rattle.table.specs.declared.check.Check.{Check}
use Rattle.table.specs.declared.check.Check.TheVariants.{Format, Layout, Kind, Count, Stretch, Bounds, Twice, Cycle, Unreached, Total}
use Rattle.table.proofs.Lists.{le_or_lt}
use Rattle.table.proofs.Test.{is_equal, every}

-- the check of a rank from 1 to 10
abbrev pub check_of : ℕ → Check
check_of n = get_or (Total ∷ Format ∷ Layout ∷ Kind ∷ Count ∷ Stretch ∷ Bounds ∷ Twice ∷ Cycle ∷ Unreached ∷ []) n Total

check_of_lem : (c : Check) → check_of (rank_of c) ≡ c
check_of_lem Format = refl
check_of_lem Layout = refl
check_of_lem Kind = refl
check_of_lem Count = refl
check_of_lem Stretch = refl
check_of_lem Bounds = refl
check_of_lem Twice = refl
check_of_lem Cycle = refl
check_of_lem Unreached = refl
check_of_lem Total = refl

-- and that check has the rank
pub check_rank : (k : ℕ) → k < 10 → rank_of (check_of (k + 1)) ≡ k + 1
check_rank = (every 10 (λ k. is_equal (rank_of (check_of (k + 1))) (k + 1))).out tt

-- the checks stand in the order of their ranks
pub rank_at : (k : ℕ) → k < 10 → rank_of (get_or CHECKS k Format) ≡ k + 1
rank_at = (every 10 (λ k. is_equal (rank_of (get_or CHECKS k Format)) (k + 1))).out tt

pub rank_inj : (c d : Check) → rank_of c ≡ rank_of d → c ≡ d
rank_inj c d e = sym (check_of_lem c) ∙ ap check_of e ∙ check_of_lem d

pub number_some : (c : Check) → 1 ≤ number_of c
number_some Format = omega arith
number_some Layout = omega arith
number_some Kind = omega arith
number_some Count = omega arith
number_some Stretch = omega arith
number_some Bounds = omega arith
number_some Twice = omega arith
number_some Cycle = omega arith
number_some Unreached = omega arith
number_some Total = omega arith

-- a refusal's number is not 0
pub refusal_some : (r : Refusal) → 1 ≤ refusals.number_of r
refusal_some (Table c _) = omega (arith, number_some c)
refusal_some (NewTable c _) = omega arith
refusal_some MarksLength = omega arith
refusal_some NoPrivilege = omega arith
refusal_some (Mark _) = omega arith
refusal_some ResultLength = omega arith
refusal_some ProposedLength = omega arith
refusal_some (ProposedMark _) = omega arith
refusal_some ProposedSpareBit = omega arith
refusal_some (Change _) = omega arith
refusal_some NumbersLength = omega arith
refusal_some (NewNumber _) = omega arith
refusal_some (NoText _) = omega arith
refusal_some (TooLarge _) = omega arith
refusal_some (Misnamed _) = omega arith
refusal_some (BothSet _) = omega arith
refusal_some SpareBit = omega arith
refusal_some (NoLine _) = omega arith
refusal_some (NotAbove _) = omega arith
refusal_some (RefusedSheet _) = omega arith
refusal_some (SumTooLarge _) = omega arith

pub refusal_not : (r : Refusal) → refusals.number_of r ≢ 0
refusal_not r e = omega (arith, refusal_some r, e)

pub rank_range : (c : Check) → (1 ≤ rank_of c) × (rank_of c < 11)
rank_range Format = omega arith
rank_range Layout = omega arith
rank_range Kind = omega arith
rank_range Count = omega arith
rank_range Stretch = omega arith
rank_range Bounds = omega arith
rank_range Twice = omega arith
rank_range Cycle = omega arith
rank_range Unreached = omega arith
rank_range Total = omega arith

-- one more check passes
pub earlier_more : (ws : List ℕ) (n : ℕ) (check : Check) → rank_of check ≡ n → ((c : Check) → rank_of c < n → Passes ws c) → Passes ws check
    → (c : Check) → rank_of c < n + 1 → Passes ws c
earlier_more ws n check e h g c l = go (eq-or-lt_of_le l)
  where
    go : (suc (rank_of c) ≡ n + 1) ⊎ (suc (rank_of c) < n + 1) → Passes ws c
    go (inl q) = let same : check ≡ c = rank_inj check c (omega arith) in rw same at g
    go (inr k) = h c (omega arith)

-- a check that fails does not pass
fails_once : {ws : List ℕ} {check : Check} {place : ℕ} → Refused ws check place → ¬ Passes ws check
fails_once {place = place} r p = r.lowest.fails (p place r.lowest.within)

pub lowest_one : {Good : ℕ → Type 0} {n j k : ℕ} → LowestAt Good n j → LowestAt Good n k → j ≡ k
lowest_one {Good} {n} {j} {k} a b = go (le_or_lt j k) (le_or_lt k j)
  where
    go : (j ≤ k) ⊎ (k < j) → (k ≤ j) ⊎ (j < k) → j ≡ k
    go (inl g) (inl h) = omega arith
    go (inl g) (inr h) = absurd (a.fails (b.before j h))
    go (inr g) h = absurd (b.fails (a.before k g))

check_one : {ws : List ℕ} {c d : Check} {p q : ℕ} → Refused ws c p → Refused ws d q → c ≡ d
check_one {ws} {c} {d} a b = go (le_or_lt (rank_of c) (rank_of d)) (le_or_lt (rank_of d) (rank_of c))
  where
    go : (rank_of c ≤ rank_of d) ⊎ (rank_of d < rank_of c) → (rank_of d ≤ rank_of c) ⊎ (rank_of c < rank_of d) → c ≡ d
    go (inl g) (inl h) = rank_inj c d (omega arith)
    go (inl g) (inr h) = absurd (fails_once a (b.earlier c h))
    go (inr g) h = absurd (fails_once b (a.earlier d g))

-- a run of words has one answer
pub answer_one : {ws : List ℕ} {n p m q : ℕ} → TableAnswer ws n p → TableAnswer ws m q → (n ≡ m) × (p ≡ q)
answer_one {ws} {n} {p} {m} {q} (refused c e r) (refused d f s) =
    let same : c ≡ d = check_one r s in
    let here : Refused ws d p = rw same at r in
    (e ∙ ap number_of same ∙ sym f, lowest_one here.lowest s.lowest)
answer_one (refused c e r) (accepted f v a) = absurd (fails_once r (a.passes c))
answer_one (accepted e v a) (refused d f s) = absurd (fails_once s (a.passes d))
answer_one (accepted e v a) (accepted f w b) = (e ∙ sym f, v ∙ sym w)

-- number 0: the words are a table, and the place is V
pub answer_accepted : {ws : List ℕ} {place : ℕ} → TableAnswer ws 0 place → Accepted ws × (place ≡ privileges ws)
answer_accepted (refused c e r) = absurd (omega (arith, number_some c))
answer_accepted (accepted e v a) = (a, v)

-- a table has number 0
pub accepted_answer : {ws : List ℕ} {number place : ℕ} → Accepted ws → TableAnswer ws number place → number ≡ 0
accepted_answer a (refused c e r) = absurd (fails_once r (a.passes c))
accepted_answer a (accepted e v b) = e
