-- Counting marks, when one that is allowed is forbidden: one less is allowed, and one more has changed. Assumes nothing.
use Rattle.std.proofs.Common.{ℕ, suc, ◌+◌, ◌≤◌, ◌<◌, ◌≡◌, refl, sym, ◌∙◌, ◌≢◌, List, arith, length, get_or, set, get_or-set_same, get_or-set_other}
use Rattle.table.specs.HowMany.{HowMany}
use Rattle.table.proofs.HowMany.{many_one, many_most, many_none, many_more, how_many_by, count_by}
use Rattle.policy.specs.Marks.{Allowed, Forbidden}
use Rattle.verdict.proofs.PolicyTests.{allowed}
use Rattle.proposing.specs.Proposals.{Changed}

-- how many of the first v marks are 1
abbrev pub allowed_in : List ℕ → ℕ → ℕ
allowed_in m v = how_many_by v (allowed m)

pub allowed_many : (m : List ℕ) (v : ℕ) → HowMany (Allowed m) v (allowed_in m v)
allowed_many m v = count_by v (allowed m)

pub allowed_most : (m : List ℕ) (v : ℕ) → allowed_in m v ≤ v
allowed_most m v = many_most (allowed_many m v)

-- an allowed mark is forbidden
module _ (m : List ℕ) (p : ℕ) (l : p < length m) where
  pub taken_here : get_or (set m p 2) p 0 ≡ 2
  taken_here = get_or-set_same m p 2 0 l

  pub taken_other : (q : ℕ) → q ≢ p → get_or (set m p 2) q 0 ≡ get_or m q 0
  taken_other q d = get_or-set_other m p q 2 0 d

  pub allowed_less : Allowed m p → (v : ℕ) → p < v → allowed_in m v ≡ allowed_in (set m p 2) v + 1
  allowed_less a v h = omega (arith, many_one (allowed_many m v) one_more)
    where
      one_more : HowMany (Allowed m) v (suc (allowed_in (set m p 2) v))
      one_more = many_more p h a (λ e. omega (arith, taken_here)) (λ q d e. taken_other q d ∙ e) (λ q d e. sym (taken_other q d) ∙ e) (allowed_many (set m p 2) v)

  pub changed_more : (n : List ℕ) → Allowed m p → Forbidden n p → (v c : ℕ) → p < v → HowMany (Changed (set m p 2) n) v c → HowMany (Changed m n) v (suc c)
  changed_more n a f v c h = many_more p h (λ e. omega arith) (λ d. d (f ∙ sym taken_here))
      (λ q d k e. k (e ∙ taken_other q d)) (λ q d k e. k (e ∙ sym (taken_other q d)))

pub changed_none : (m : List ℕ) (v : ℕ) → HowMany (Changed m m) v 0
changed_none m v = many_none v (λ q l d. d refl)
