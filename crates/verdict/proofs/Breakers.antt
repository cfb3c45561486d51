-- What breaks a spot: the lowest privilege and how many there are, by its condition. Assumes nothing.
use Rattle.std.proofs.Common.{ℕ, ◌≤◌, ◌<◌, ◌≡◌, refl, sym, ap, subst, ◌∙◌, ◌≢◌, inl, inr, List, [], arith, length}
use mathlib.Core.Path.{subst⁻¹}
use Rattle.table.specs.HowMany.{Tallied, some, nothing}
use Rattle.table.specs.Words.{types}
use Rattle.table.specs.Rule.{IsChoice, child_at}
use Rattle.table.specs.declared.privilege.Numbering.{Numbering}
use Rattle.table.specs.Privilege.{privileges, exchange_of, replace_of}
use Rattle.table.specs.Privilege as edit
use Rattle.table.specs.Check.{Accepted}
use Rattle.table.proofs.Facts.{facts}
use Rattle.table.proofs.HowMany.{tallied_one, tallied_as, tallied_single}
use Rattle.table.proofs.Privileges.{belongs_below, edit_below}
use Rattle.policy.specs.Marks.{Allowed, Policy}
use Rattle.policy.specs.Reached.{Step}
use Rattle.policy.specs.Renewed.{Renewed, Barred}
use Rattle.policy.specs.Steps.Renewing.{BarredIn, RenewalIn}
use Rattle.policy.specs.declared.renew.Renewal.{Renewal}
use Rattle.chain.specs.Chain.{Fewest}
use Rattle.chain.specs.declared.Chain.{Chain as Chained}
use Rattle.chain.proofs.Chains.{fewest_short, chain_places}
use Rattle.verdict.specs.Below.{ForbiddenBelow, ForbiddenTally}
use Rattle.verdict.specs.Breaches.{spot_of, chain_in, StarBroken, at_exchange, at_below, InsertDeleteBreach, ChainBreach, CycleBreach, BreachOf, BreachBy, IsBreach, FirstSpot, StepsOf, ChainAt, FirstBreach, Verdict, clean, broken}
use Rattle.verdict.specs.Breaches.{PassesOn, star, replace, chain, cycle}
use Rattle.verdict.specs.Steps.Breakers.{BreakerAt}
use Rattle.verdict.specs.Steps.Breakers as breaker
use Rattle.verdict.specs.declared.Breach.{Breach}
use Rattle.verdict.specs.declared.Spot.{Spot}
use Rattle.verdict.specs.declared.breaches.Breaker.TheVariants.{Own, Below}
use Rattle.verdict.specs.declared.Condition.{Condition}
use Rattle.verdict.specs.declared.Condition.TheVariants.{InsertDelete, Chain, Cycle}
use Rattle.verdict.proofs.Firsts.{breach_cases}

-- where the exchange is not what breaks a star, it is not forbidden with insert and delete both allowed
pub unbarred : {marks : List ℕ} {n : Numbering} (r : Renewal) → RenewalIn marks n r → r ≢ Renewal.Barred → ¬ BarredIn marks n
unbarred Renewal.Shut h d b = h (inl b.both)
unbarred Renewal.Barred h d b = d refl
unbarred Renewal.Open h d b = h.0 b

-- 17 places hold the chain of a breach
pub record Fits (b : Breach) : Type 0 where
  pub few : b.length ≤ 17
  pub size : length b.chain ≡ 17

module _ (ws marks : List ℕ) where
  abbrev Here : ℕ → ℕ → Type 0
  Here = ForbiddenBelow ws marks

  -- a spot is broken as its condition says
  abbrev pub BrokenAs : (ℕ → ℕ → Type 0) → Spot → ℕ → Type 0
  BrokenAs B s p = (k : Condition) → s.condition ≡ k → BreachOf ws marks B k s p

  pub broken_as : (B : ℕ → ℕ → Type 0) (s : Spot) (p : ℕ) → BreachBy ws marks B s p → BrokenAs B s p
  broken_as B s p h k e = subst (λ (c : Condition). BreachOf ws marks B c s p) e h

  star_below : {x p : ℕ} → StarBroken ws marks Here x p → p < privileges ws
  star_below {x} (at_exchange b e) = rw e (edit_below ws (edit.exchange x) b.can)
  star_below (at_below d r w) = belongs_below w.below.belongs

  -- a privilege that breaks a spot is one
  pub breach_below : (s : Spot) (p : ℕ) → IsBreach ws marks s p → p < privileges ws
  breach_below s p b = elim (breach_cases ws marks Here s p b) [
    | inl h ↦ star_below h.1.broken
    | inr (inl h) ↦ rw h.1.is (edit_below ws (edit.replace s.element s.i s.j) h.1.can)
    | inr (inr h) ↦ belongs_below h.1.below.below.belongs
  ]

  -- the lowest of what has P at a star, and how many: its exchange alone, or what is forbidden below its child
  pub barred_tally : {x p : ℕ} → Barred ws marks x → p ≡ exchange_of ws x → Tallied (StarBroken ws marks Here x) (privileges ws) p 1
  barred_tally {x} {p} b is = tallied_single p (star_below (at_exchange b is)) (at_exchange b is) (λ q f. elim f [ at_exchange c e ↦ e ∙ sym is | at_below d r w ↦ absurd (d b) ])

  module _ {x : ℕ} (d : ¬ Barred ws marks x) (r : Renewed ws (Allowed marks) x) where
    below_out : (q : ℕ) → StarBroken ws marks Here x q → Here (child_at ws x 0) q
    below_out q (at_exchange b e) = absurd (d b)
    below_out q (at_below a g w) = w

    pub below_tally : {l c : ℕ} → Tallied (Here (child_at ws x 0)) (privileges ws) l c → Tallied (StarBroken ws marks Here x) (privileges ws) l c
    below_tally = tallied_as (λ q k w. at_below d r w) (λ q k. below_out q)

    tally_below : {l c : ℕ} → Tallied (StarBroken ws marks Here x) (privileges ws) l c → Tallied (Here (child_at ws x 0)) (privileges ws) l c
    tally_below = tallied_as (λ q k. below_out q) (λ q k w. at_below d r w)

  -- a broken star whose exchange is not what breaks it can be renewed
  pub star_renewed : {x p : ℕ} → ¬ Barred ws marks x → StarBroken ws marks Here x p → Renewed ws (Allowed marks) x
  star_renewed d (at_exchange b e) = absurd (d b)
  star_renewed d (at_below f r w) = r

  -- a spot is broken by what its condition says
  module _ (s : Spot) where
    abbrev Of : Condition → ℕ → Type 0
    Of k q = BreachOf ws marks Here k s q

    module _ (e : s.condition ≡ InsertDelete) {p : ℕ} (h : InsertDeleteBreach ws marks Here s p) where
      star_into : (q : ℕ) → StarBroken ws marks Here s.element q → IsBreach ws marks s q
      star_into q b = subst⁻¹ (λ (k : Condition). Of k q) e (record { star = h.star; zero_i = h.zero_i; zero_j = h.zero_j; broken = b })

      star_out : (q : ℕ) → IsBreach ws marks s q → StarBroken ws marks Here s.element q
      star_out q b = let g : InsertDeleteBreach ws marks Here s q = subst (λ (k : Condition). Of k q) e b in g.broken

      pub star_tally : {l c : ℕ} → Tallied (StarBroken ws marks Here s.element) (privileges ws) l c → Tallied (IsBreach ws marks s) (privileges ws) l c
      star_tally = tallied_as (λ q k. star_into q) (λ q k. star_out q)

      tally_star : {l c : ℕ} → Tallied (IsBreach ws marks s) (privileges ws) l c → Tallied (StarBroken ws marks Here s.element) (privileges ws) l c
      tally_star = tallied_as (λ q k. star_out q) (λ q k. star_into q)

    pub chain_tally : {p r : ℕ} → s.condition ≡ Chain → ChainBreach ws marks s p → r ≡ replace_of ws s.element s.i s.j → Tallied (IsBreach ws marks s) (privileges ws) r 1
    chain_tally {p} {r} e h is = tallied_single r (breach_below s r broken) broken (λ q b. let g : ChainBreach ws marks s q = subst (λ (k : Condition). Of k q) e b in g.is ∙ sym is)
      where
        broken : IsBreach ws marks s r
        broken = subst⁻¹ (λ (k : Condition). Of k r) e (rw (h.is ∙ sym is) at h)

    module _ (e : s.condition ≡ Cycle) {p : ℕ} (h : CycleBreach ws marks Here s p) where
      cycle_into : (q : ℕ) → Here (child_at ws s.element s.i) q → IsBreach ws marks s q
      cycle_into q b = subst⁻¹ (λ (k : Condition). Of k q) e (record { choice = h.choice; same = h.same; reached = h.reached; below = b })

      cycle_out : (q : ℕ) → IsBreach ws marks s q → Here (child_at ws s.element s.i) q
      cycle_out q b = let g : CycleBreach ws marks Here s q = subst (λ (k : Condition). Of k q) e b in g.below

      pub cycle_tally : {l c : ℕ} → Tallied (Here (child_at ws s.element s.i)) (privileges ws) l c → Tallied (IsBreach ws marks s) (privileges ws) l c
      cycle_tally = tallied_as (λ q k. cycle_into q) (λ q k. cycle_out q)

      tally_cycle : {l c : ℕ} → Tallied (IsBreach ws marks s) (privileges ws) l c → Tallied (Here (child_at ws s.element s.i)) (privileges ws) l c
      tally_cycle = tallied_as (λ q k. cycle_out q) (λ q k. cycle_into q)

  -- the child that is asked for is a type
  pub breaker_type : {s : Spot} {y : ℕ} → BreakerAt ws marks s (Below y) → y < types ws
  breaker_type (breaker.star e d l is) = l
  breaker_type (breaker.cycle e l is) = l

  -- what breaks a spot is that privilege alone, or what is forbidden below that child
  module _ (s : Spot) (p : ℕ) (h : IsBreach ws marks s p) where
    broken_here : BrokenAs Here s p
    broken_here = broken_as Here s p h

    pub own_tally : {q : ℕ} → BreakerAt ws marks s (Own q) → Tallied (IsBreach ws marks s) (privileges ws) q 1
    own_tally (breaker.exchange e b is) = star_tally s e (broken_here InsertDelete e) (barred_tally b is)
    own_tally (breaker.replacement e is) = chain_tally s e (broken_here Chain e) is

    pub child_tally : {y l c : ℕ} → BreakerAt ws marks s (Below y) → Tallied (Here y) (privileges ws) l c → Tallied (IsBreach ws marks s) (privileges ws) l c
    child_tally (breaker.star e d l is) t = let g = broken_here InsertDelete e in star_tally s e g (below_tally d (star_renewed d g.broken) (rw is at t))
    child_tally (breaker.cycle e l is) t = cycle_tally s e (broken_here Cycle e) (rw is at t)

  -- the first breach is the first spot with what breaks it and its chain
  pub tally_first : {b : Breach} → FirstSpot (IsBreach ws marks) (spot_of b) → Tallied (IsBreach ws marks (spot_of b)) (privileges ws) b.privilege b.forbidden
      → ChainAt ws marks (spot_of b) (chain_in b) → FirstBreach ws marks b
  tally_first {b} f (some l h least n) s = record { spot = f; breach = h; lowest = λ q g. least q (breach_below (spot_of b) q g) g; count = n; chain = s }
  tally_first {b} f (nothing n e z) s = let p = f.broken.0 in let h = f.broken.1 in absurd (n p (breach_below (spot_of b) p h) h)

  -- and its count is what the document says
  pub passes_on : {b : Breach} → FirstBreach ws marks b → PassesOn ws marks (ForbiddenTally ws marks) b
  passes_on {b} f = elim (breach_cases ws marks Here s b.privilege f.breach) [
    | inl (e, h) ↦ broken e h h.broken
    | inr (inl (e, h)) ↦ chain e (tallied_one told (chain_tally s e h h.is)).1
    | inr (inr (e, h)) ↦ cycle e (tally_cycle s e h told)
  ]
    where
      s : Spot
      s = spot_of b

      told : Tallied (IsBreach ws marks s) (privileges ws) b.privilege b.forbidden
      told = some (breach_below s b.privilege f.breach) f.breach (λ q l g. f.lowest q g) f.count

      broken : b.condition ≡ InsertDelete → InsertDeleteBreach ws marks Here s b.privilege → StarBroken ws marks Here b.element b.privilege → PassesOn ws marks (ForbiddenTally ws marks) b
      broken e h (at_exchange c q) = replace e c q (tallied_one (tally_star s e h told) (barred_tally c q)).1
      broken e h (at_below d r w) = star e d (tally_below d r (tally_star s e h told))

  -- a chain has at most 17 positions
  steps_few : Accepted ws → {b : Breach} → FirstBreach ws marks b → (ps : List ℕ) → StepsOf ws marks b.condition (spot_of b) ps → length ps ≤ 17
  steps_few a {b} f ps = elim (breach_cases ws marks Here (spot_of b) b.privilege f.breach) [
    | inl (e, h) ↦ λ s. let none : ps ≡ [] = subst (λ (k : Condition). StepsOf ws marks k (spot_of b) ps) e s in rw none (omega arith)
    | inr (inl (e, h)) ↦ λ s. at h.choice (subst (λ (k : Condition). StepsOf ws marks k (spot_of b) ps) e s)
    | inr (inr (e, h)) ↦ λ s. at h.choice (subst (λ (k : Condition). StepsOf ws marks k (spot_of b) ps) e s)
  ]
    where
      at : IsChoice ws b.element → Fewest (Step ws (Allowed marks) b.element) b.i b.j ps → length ps ≤ 17
      at c s = omega (arith, fewest_short (λ x y t. t.can.to) s, (facts a).children_few b.element c.type)

  pub verdict_fits : Policy ws marks → {b : Breach} → Verdict ws marks b → Fits b
  verdict_fits pol {b} (clean q e) = subst⁻¹ Fits e (record { few = omega arith; size = refl })
  verdict_fits pol {b} (broken f) =
      let c = f.chain in
      let few = steps_few pol.accepted f c.positions c.steps in
      record { few = omega (arith, ap (λ (d : Chained). d.length) c.are); size = ap (λ (d : Chained). length d.at) c.are ∙ chain_places c.positions few }
