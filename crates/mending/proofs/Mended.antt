-- What the mending rule gives: one outcome, clean, only 1 became 2, and its count is that of the changed marks. Assumes nothing.
use Rattle.std.proofs.Common.{ℕ, suc, ◌+◌, ◌≤◌, ◌<◌, ◌≡◌, refl, sym, ap, ◌∙◌, ◌⊎◌, inl, inr, List, zero-add, add-zero, add_assoc, arith, length, set, length-set}
use native.Mathlib.Decide.{ℕ_discrete}
use Rattle.table.specs.HowMany.{HowMany}
use Rattle.table.proofs.HowMany.{many_one}
use Rattle.table.specs.Privilege.{privileges, Belongs, replace_of, delete, exchange, replace}
use Rattle.table.specs.Rule.{IsStar}
use Rattle.table.proofs.Lists.{le_or_lt}
use Rattle.table.proofs.Privileges.{belongs_below, edit_belongs}
use Rattle.policy.specs.Marks.{Allowed, Forbidden}
use Rattle.policy.specs.Renewed.{by_both, by_exchange}
use Rattle.verdict.specs.Conditions.{Clean}
use Rattle.verdict.specs.Below.{ForbiddenBelow}
use Rattle.verdict.specs.Breaches.{StarBroken, at_exchange, at_below, IsBreach, BreachOf, FirstSpot}
use Rattle.verdict.specs.declared.Spot.{Spot}
use Rattle.verdict.specs.declared.Condition.{Condition}
use Rattle.verdict.specs.declared.Condition.TheVariants.{None, InsertDelete, Chain, Cycle}
use Rattle.policy.proofs.Policies.{marked_within}
use Rattle.verdict.proofs.Firsts.{spot_one, clean_none}
use Rattle.mending.specs.Mends.{LowestLead, StarTakes, TakesFor, Takes, Mends, done, more}
use Rattle.mending.specs.Mends as mends
use Rattle.proposing.specs.Proposals.{Kept, Changed}
use Rattle.mending.specs.Steps.Taking.{Follows, start, take}
use Rattle.mending.proofs.Counting.{allowed_in, allowed_many, taken_here, taken_other, allowed_less, changed_more, changed_none}

module _ (ws m : List ℕ) where
  lowest_lead_one : {x i j p q : ℕ} → LowestLead ws m x i j p → LowestLead ws m x i j q → p ≡ q
  lowest_lead_one {x} {i} {j} {p} {q} a b = go (le_or_lt a.k b.k) (le_or_lt b.k a.k)
    where
      go : (a.k ≤ b.k) ⊎ (b.k < a.k) → (b.k ≤ a.k) ⊎ (a.k < b.k) → p ≡ q
      go (inl g) (inl h) = let e : a.k ≡ b.k = omega arith in a.is ∙ ap (replace_of ws x i) e ∙ sym b.is
      go (inl g) (inr h) = absurd (b.lowest a.k h a.leads)
      go (inr g) h = absurd (a.lowest b.k g b.leads)

  star_takes_one : {x p q : ℕ} → StarTakes ws m x p → StarTakes ws m x q → p ≡ q
  star_takes_one (mends.delete b e) (mends.delete c f) = e ∙ sym f
  star_takes_one (mends.delete b e) (mends.exchange d f) = absurd (d b)
  star_takes_one (mends.exchange d e) (mends.delete c f) = absurd (d c)
  star_takes_one (mends.exchange d e) (mends.exchange c f) = e ∙ sym f

  takes_for_one : (k : Condition) (s : Spot) (p q : ℕ) → TakesFor ws m k s p → TakesFor ws m k s q → p ≡ q
  takes_for_one None s p q g h = absurd g
  takes_for_one InsertDelete s p q g h = star_takes_one g h
  takes_for_one Chain s p q g h = lowest_lead_one g h
  takes_for_one Cycle s p q g h = lowest_lead_one g h

  takes_one : (s : Spot) (p q : ℕ) → Takes ws m s p → Takes ws m s q → p ≡ q
  takes_one s = takes_for_one s.condition s

  -- what is taken was allowed, and is a privilege of the breached type
  star_takes : {x p q : ℕ} → IsStar ws x → StarBroken ws m (ForbiddenBelow ws m) x q → StarTakes ws m x p → Allowed m p × Belongs ws p x
  star_takes {x} s f (mends.delete b e) = (rw e b.delete, rw e (edit_belongs ws (delete x) s))
  star_takes s (at_exchange f q) (mends.exchange d e) = absurd (d f.both)
  star_takes s (at_below f (by_both b) w) (mends.exchange d e) = absurd (d b)
  star_takes {x} s (at_below f (by_exchange c a) w) (mends.exchange d e) = (rw e a, rw e (edit_belongs ws (exchange x) c))

  takes_by : (k : Condition) (s : Spot) (q p : ℕ) → BreachOf ws m (ForbiddenBelow ws m) k s q → TakesFor ws m k s p → Allowed m p × Belongs ws p s.element
  takes_by None s q p h g = absurd g
  takes_by InsertDelete s q p h g = star_takes h.star h.broken g
  takes_by Chain s q p h g = let l = g.leads.step in (rw g.is l.allowed, rw g.is (edit_belongs ws (replace s.element s.i g.k) l.can))
  takes_by Cycle s q p h g = let l = g.leads.step in (rw g.is l.allowed, rw g.is (edit_belongs ws (replace s.element s.i g.k) l.can))

  module _ (s : Spot) (p : ℕ) (f : FirstSpot (IsBreach ws m) s) (g : Takes ws m s p) where
    pub takes_allowed : Allowed m p
    takes_allowed = (takes_by s.condition s f.broken.0 p f.broken.1 g).0

    pub takes_own : Belongs ws p s.element
    takes_own = (takes_by s.condition s f.broken.0 p f.broken.1 g).1

    pub takes_below : p < privileges ws
    takes_below = belongs_below takes_own

-- the rule has one outcome
pub mends_one : {ws m n o : List ℕ} {c d : ℕ} → Mends ws m n c → Mends ws m o d → (n ≡ o) × (c ≡ d)
mends_one (done q) (done r) = (refl, refl)
mends_one {ws} {m} (done q) (more s p f g r) = absurd (clean_none ws m q s f.broken.0 f.broken.1)
mends_one {ws} {m} (more s p f g r) (done q) = absurd (clean_none ws m q s f.broken.0 f.broken.1)
mends_one {ws} {m} {n} {o} (more {c = c} s p f g r) (more {c = d} s' p' f' g' r') =
    let e : s ≡ s' = spot_one f f' in
    let g'' : Takes ws m s p' = rw (← e) at g' in
    let h : p ≡ p' = takes_one ws m s p p' g g'' in
    let r'' : Mends ws (set m p 2) o d = rw (← h) at r' in
    let i = mends_one r r'' in
    (i.0, ap suc i.1)

-- the mended policy passes
pub mends_clean : {ws m n : List ℕ} {c : ℕ} → Mends ws m n c → Clean ws n
mends_clean (done q) = q
mends_clean (more s p f g r) = mends_clean r

-- a clean policy is copied
pub clean_mends : {ws m n : List ℕ} {c : ℕ} → Clean ws m → Mends ws m n c → (n ≡ m) × (c ≡ 0)
clean_mends q r = mends_one r (done q)

-- each mark is as it was, or went from 1 to 2
pub record Lowered (m n : List ℕ) : Type 0 where
  pub size : length n ≡ length m
  pub each : (p : ℕ) → Kept m n p

lower_step : (m n : List ℕ) (p : ℕ) → Allowed m p → Lowered (set m p 2) n → Lowered m n
lower_step m n p a h = record { size = h.size ∙ length-set m p 2; each = λ q. go q (ℕ_discrete q p) (h.each q) }
  where
    low : p < length m
    low = marked_within m p (omega arith)

    go : (q : ℕ) → Dec (q ≡ p) → Kept (set m p 2) n q → Kept m n q
    go q (no d) k = rw (← taken_other m p low q d) k
    go q (yes e) (inl f) = inr (rw e a, f ∙ rw e (taken_here m p low))
    go q (yes e) (inr f) = inr (rw e a, f.1)

pub mends_lowered : {ws m n : List ℕ} {c : ℕ} → Mends ws m n c → Lowered m n
mends_lowered (done q) = record { size = refl; each = λ p. inl refl }
mends_lowered {ws} {m} {n} (more s p f g r) = lower_step m n p (takes_allowed ws m s p f g) (mends_lowered r)

-- its count is the number of marks changed
pub mends_count : {ws m n : List ℕ} {c : ℕ} → Mends ws m n c → HowMany (Changed m n) (privileges ws) c
mends_count {ws} {m} (done q) = changed_none m (privileges ws)
mends_count {ws} {m} {n} (more {c = c} s p f g r) =
    let a : Allowed m p = takes_allowed ws m s p f g in
    let low = marked_within m p (omega arith) in
    let l = mends_lowered r in
    let e : Forbidden n p = elim (l.each p) [ inl h ↦ h ∙ taken_here m p low | inr h ↦ h.1 ] in
    changed_more m p low n a e (privileges ws) c (takes_below ws m s p f g) (mends_count r)

-- and as many less are allowed
fewer_allowed : {ws m n : List ℕ} {c : ℕ} → Mends ws m n c → c + allowed_in n (privileges ws) ≡ allowed_in m (privileges ws)
fewer_allowed (done q) = omega arith
fewer_allowed {ws} {m} (more s p f g r) =
    let a : Allowed m p = takes_allowed ws m s p f g in
    omega (arith, fewer_allowed r, allowed_less m p (marked_within m p (omega arith)) a (privileges ws) (takes_below ws m s p f g))

pub mends_bound : {ws m n : List ℕ} {c before after : ℕ} → Mends ws m n c → HowMany (Allowed m) (privileges ws) before → HowMany (Allowed n) (privileges ws) after
    → c + after ≡ before
mends_bound {ws} {m} {n} r b a = omega (arith, fewer_allowed r, many_one b (allowed_many m (privileges ws)), many_one a (allowed_many n (privileges ws)))

add_suc_one : (c d : ℕ) → c + 1 + d ≡ c + suc d
add_suc_one c d = omega arith

-- following the rule, and then being clean, is mending
follows_mends : {ws m n o : List ℕ} {c d : ℕ} → Follows ws m n c → Mends ws n o d → Mends ws m o (c + d)
follows_mends {ws} {m} {o = o} {d = d} start r = rw (zero-add d) r
follows_mends {ws} {m} {o = o} {d = d} (take {c = c} s p f g t) r = let whole = follows_mends f (more s p g t r) in rw (add_suc_one c d) whole

pub follows_done : {ws m n : List ℕ} {c : ℕ} → Follows ws m n c → Clean ws n → Mends ws m n c
follows_done {c = c} f q = rw (add-zero c) at (follows_mends f (done q))

-- one who follows it twice has followed it
pub follows_trans : {ws m n o : List ℕ} {c d : ℕ} → Follows ws m n c → Follows ws n o d → Follows ws m o (c + d)
follows_trans {c = c} f start = rw (add-zero c) f
follows_trans {c = c} f (take {c = d} s p g h t) = rw (← add_assoc c d 1) (take s p (follows_trans f g) h t)

-- the count so far is at most the marks allowed at the start
pub follows_bound : {ws m n : List ℕ} {c : ℕ} → Follows ws m n c → c + allowed_in n (privileges ws) ≡ allowed_in m (privileges ws)
follows_bound start = omega arith
follows_bound {ws} {m} (take {n = n} s p f g t) =
    let a : Allowed n p = takes_allowed ws n s p g t in
    omega (arith, follows_bound f, allowed_less n p (marked_within n p (omega arith)) a (privileges ws) (takes_below ws n s p g t))
