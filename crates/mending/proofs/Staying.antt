-- Why types can be mended in one ascending pass: where type x has a breach, something below x is forbidden already, so forbidding one more
-- privilege of x leaves it told which types have something forbidden below them, and no type before x comes to have a breach. Assumes
-- nothing.
use Prim.Native.Nat.{ℕ, ◌+◌, ◌≤◌, ◌<◌}
use mathlib.Core.Path.{◌≡◌, refl, sym, subst, ◌∙◌}
use mathlib.Core.Logic.{◌≢◌, inl, inr}
use mathlib.Core.List.{List}
use native.Mathlib.Decide.{ℕ_discrete}
use native.Mathlib.Omega.{arith}
use lib.ListN.{length, get_or, set, length-set}
use Rattle.table.specs.Words.{types}
use Rattle.table.specs.Rule.{child_at}
use Rattle.table.specs.Privilege.{Belongs, privileges, exchange_of, exchange, replace}
use Rattle.table.proofs.Test.{settle}
use Rattle.table.proofs.Privileges.{belongs_one, belongs_below, edit_belongs}
use Rattle.table.proofs.Facts.{facts}
use Rattle.policy.specs.Marks.{Allowed, Forbidden, Policy}
use Rattle.policy.proofs.Policies.{marked_within}
use Rattle.policy.proofs.Reaches.{reached_mono}
use Rattle.policy.proofs.Renewals.{both_mono, renewed_mono}
use Rattle.verdict.specs.Below.{ForbiddenBelow}
use Rattle.verdict.specs.Breaches.{StarBroken, at_exchange, at_below, BreachOf, IsBreach}
use Rattle.verdict.specs.declared.Spot.{Spot}
use Rattle.verdict.specs.declared.Condition.{Condition}
use Rattle.verdict.specs.declared.Condition.TheVariants.{None, InsertDelete, Chain, Cycle}
use Rattle.verdict.proofs.Firsts.{clean_all, none_clean}
use Rattle.verdict.proofs.Spoiling.{forbidden_up, breach_spoils}
use Rattle.verdict.proofs.PolicyTests.{barred}
use Rattle.mending.specs.Mends.{Mends}
use Rattle.mending.specs.Steps.Taking.{Spoilt, CleanUpTo, Cleaned, Follows, take, TakenAt}
use Rattle.mending.proofs.Counting.{allowed_in, allowed_most, allowed_less, taken_here, taken_other}
use Rattle.mending.proofs.Mended.{takes_allowed, takes_own, follows_bound, follows_trans, follows_done}

-- one allowed privilege p of x is forbidden, with something below x forbidden already
module _ {ws m : List ℕ} {x p q₀ : ℕ} (own : Belongs ws p x) (a : Allowed m p) (f₀ : ForbiddenBelow ws m x q₀) where
  low : p < length m
  low = marked_within m p (omega arith)

  -- nothing more is allowed
  pub allowed_before : (q : ℕ) → Allowed (set m p 2) q → Allowed m q
  allowed_before q h = go (ℕ_discrete q p)
    where
      go : Dec (q ≡ p) → Allowed m q
      go (yes e) = rw e a
      go (no d) = sym (taken_other m p low q d) ∙ h

  -- something is forbidden below y afterwards exactly if it was before
  spoilt_before : (y : ℕ) → (q : ℕ) × ForbiddenBelow ws (set m p 2) y q → (q : ℕ) × ForbiddenBelow ws m y q
  spoilt_before y (q, f) = go (ℕ_discrete q p)
    where
      go : Dec (q ≡ p) → (q : ℕ) × ForbiddenBelow ws m y q
      go (yes e) =
          let t : f.below.type ≡ x = belongs_one (rw e at f.below.belongs) own in
          (q₀, forbidden_up f₀ (rw t at f.below.below))
      go (no d) = (q, record { below = f.below; forbidden = sym (taken_other m p low q d) ∙ f.forbidden })

  spoilt_after : (y : ℕ) → (q : ℕ) × ForbiddenBelow ws m y q → (q : ℕ) × ForbiddenBelow ws (set m p 2) y q
  spoilt_after y (q, f) =
      let d : q ≢ p = λ e. let g : Forbidden m p = rw e at f.forbidden in omega arith in
      (q, record { below = f.below; forbidden = taken_other m p low q d ∙ f.forbidden })

  pub spoilt_stays : (flags : List ℕ) → Spoilt ws m flags → Spoilt ws (set m p 2) flags
  spoilt_stays flags s = record {
    onto = λ y k l h. spoilt_after y (s.onto y k l h);
    back = λ y q l f. let r = spoilt_before y (q, f) in s.back y r.0 l r.1;
  }

  -- what breaks another star broke it before, but perhaps by another privilege
  star_before : {y q : ℕ} → y ≢ x → StarBroken ws (set m p 2) (ForbiddenBelow ws (set m p 2)) y q → (r : ℕ) × StarBroken ws m (ForbiddenBelow ws m) y r
  star_before {y} d (at_exchange f e) =
      let other : exchange_of ws y ≢ p = λ z. d (belongs_one (rw (← z) (edit_belongs ws (exchange y) f.can)) own) in (
        exchange_of ws y,
        at_exchange (record { can = f.can; both = both_mono allowed_before f.both; forbidden = sym (taken_other m p low (exchange_of ws y) other) ∙ f.forbidden }) refl,
      )
  star_before {y} {q} d (at_below f r w) = elim (settle (barred ws m y)) [
    | inl b ↦ (exchange_of ws y, at_exchange b refl)
    | inr n ↦ let s = spoilt_before (child_at ws y 0) (q, w) in (s.0, at_below n (renewed_mono allowed_before r) s.1)
  ]

  -- a spot at another type that is broken was so before, but perhaps by another privilege
  clear : (s : Spot) (q : ℕ) → s.element ≢ x → IsBreach ws (set m p 2) s q → (r : ℕ) × IsBreach ws m s r
  clear s q d h = go s.condition h
    where
      go : (c : Condition) → BreachOf ws (set m p 2) (ForbiddenBelow ws (set m p 2)) c s q → (r : ℕ) × BreachOf ws m (ForbiddenBelow ws m) c s r
      go None g = absurd g
      go InsertDelete g =
          let b = star_before d g.broken in
          (b.0, record { star = g.star; zero_i = g.zero_i; zero_j = g.zero_j; broken = b.1 })
      go Chain g =
          let other : q ≢ p = λ e. d (belongs_one (rw (← e, g.is) (edit_belongs ws (replace s.element s.i s.j) g.can)) own) in
          (q, record { choice = g.choice; reached = reached_mono allowed_before g.reached; can = g.can; is = g.is; forbidden = sym (taken_other m p low q other) ∙ g.forbidden })
      go Cycle g =
          let b = spoilt_before (child_at ws s.element s.i) (q, g.below) in
          (b.0, record { choice = g.choice; same = g.same; reached = reached_mono allowed_before g.reached; below = b.1 })

  -- so the first spot never goes back to a lower type
  pub clean_stays : CleanUpTo ws m x → CleanUpTo ws (set m p 2) x
  clean_stays before s q h = go (ℕ_discrete s.element x)
    where
      go : Dec (s.element ≡ x) → x ≤ s.element
      go (yes e) = omega arith
      go (no d) = let r = clear s q d h in before s r.0 r.1

-- taking a mark keeps a policy a policy
pub policy_stays : {ws m : List ℕ} (p : ℕ) → Policy ws m → Allowed m p → Policy ws (set m p 2)
policy_stays {ws} {m} p pol a = record {
  accepted = pol.accepted;
  fit = record { size = length-set m p 2 ∙ pol.fit.size; legal = λ q l. go q l (ℕ_discrete q p) };
}
  where
    low : p < length m
    low = marked_within m p (omega arith)

    go : (q : ℕ) → q < privileges ws → Dec (q ≡ p) → get_or (set m p 2) q 0 ≤ 2
    go q l (yes e) = rw (e, taken_here m p low) (omega arith)
    go q l (no d) = rw (taken_other m p low q d) (pol.fit.legal q l)

-- the mend of type x, on its way: the rule was followed, and no type before x has a breach
pub record Mending (ws flags : List ℕ) (x : ℕ) (old new : List ℕ) (c : ℕ) : Type 0 where
  pub follows : Follows ws old new c
  pub policy : Policy ws new
  pub spoilt : Spoilt ws new flags
  pub clean : CleanUpTo ws new x

-- what the rule takes next is taken
module _ {ws flags : List ℕ} {x : ℕ} {old new : List ℕ} {c p : ℕ} (h : Mending ws flags x old new c) (t : TakenAt ws new x p) where
  pub next_allowed : Allowed new p
  next_allowed = takes_allowed ws new t.spot p t.first t.takes

  next_own : Belongs ws p x
  next_own = subst (λ (y : ℕ). Belongs ws p y) t.here (takes_own ws new t.spot p t.first t.takes)

  pub next_within : p < length new
  next_within = marked_within new p (λ e. omega (arith, next_allowed))

  pub mending_take : Mending ws flags x old (set new p 2) (c + 1)
  mending_take =
      let s = breach_spoils h.policy.accepted t.spot t.first.broken.0 t.first.broken.1 in
      let f : ForbiddenBelow ws new x s.0 = subst (λ (y : ℕ). ForbiddenBelow ws new y s.0) t.here s.1 in
      record {
        follows = take t.spot p h.follows t.first t.takes;
        policy = policy_stays p h.policy next_allowed;
        spoilt = spoilt_stays next_own next_allowed f flags h.spoilt;
        clean = clean_stays next_own next_allowed f h.clean;
      }

  -- one mark less is allowed
  pub next_less : allowed_in (set new p 2) (privileges ws) < allowed_in new (privileges ws)
  next_less = omega (arith, allowed_less new p next_within next_allowed (privileges ws) (belongs_below next_own))

-- the count is small
pub mending_few : {ws flags : List ℕ} {x : ℕ} {old new : List ℕ} {c : ℕ} → Mending ws flags x old new c → c ≤ 4096
mending_few {ws} {old = old} h = omega (arith, follows_bound h.follows, allowed_most old (privileges ws), (facts h.policy.accepted).privileges_few)

-- a type that is done, and the next
pub mending_on : {ws flags : List ℕ} {x : ℕ} {old mid new : List ℕ} {c d : ℕ} → Mending ws flags x old mid c → Cleaned ws flags x mid new d → Mending ws flags (x + 1) old new (c + d)
mending_on h k = record { follows = follows_trans h.follows k.follows; policy = k.policy; spoilt = k.spoilt; clean = k.clean }

-- where all types are done the policy is mended
pub mending_done : {ws flags old new : List ℕ} {c : ℕ} → Mending ws flags (types ws) old new c → Mends ws old new c
mending_done {ws} {new = new} h = follows_done h.follows (none_clean ws new (clean_all ws new (ForbiddenBelow ws new) h.clean))
