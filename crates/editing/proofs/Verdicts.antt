-- The verdict by what is kept: there is one, and where the entries are those of the marks it is the verdict on the marks. Assumes nothing.
use Prim.Native.Nat.{ℕ, ◌<◌}
use mathlib.Core.Path.{◌≡◌, refl, sym, ap, subst, subst⁻¹, ◌∙◌}
use mathlib.Core.List.{List}
use native.Mathlib.Omega.{arith}
use Rattle.table.specs.Words.{types}
use Rattle.table.specs.Rule.{child_at}
use Rattle.table.specs.HowMany.{Tallied, some, nothing}
use Rattle.table.specs.Privilege.{privileges}
use Rattle.table.proofs.Facts.{facts}
use Rattle.table.proofs.HowMany.{none_many, tallied_many}
use Rattle.table.proofs.Privileges.{belongs_below}
use Rattle.policy.specs.Marks.{Policy}
use Rattle.policy.specs.Renewed.{Barred}
use Rattle.policy.proofs.Reaches.{reached_from}
use Rattle.verdict.specs.Below.{ForbiddenBelow, ForbiddenTally}
use Rattle.verdict.specs.Breaches.{spot_of, at_exchange, at_below, InsertDeleteBreach, ChainBreach, CycleBreach, BreachOf, BreachBy, IsBreach}
use Rattle.verdict.specs.Breaches.{FirstSpot, StarBroken, FirstBreach, Verdict, PassesOn, star, replace, chain, cycle, condition_number}
use Rattle.verdict.specs.Breaches as verdict
use Rattle.verdict.specs.Steps.Spoils.{Agree}
use Rattle.verdict.specs.declared.Breach.{Breach}
use Rattle.verdict.specs.declared.Spot.{Spot}
use Rattle.verdict.specs.declared.Condition.{Condition}
use Rattle.verdict.specs.declared.Condition.TheVariants.{None, InsertDelete, Chain, Cycle}
use Rattle.verdict.specs.declared.below.Tally.{Tally}
use Rattle.verdict.proofs.Firsts.{breach_one, chain_at_one, spot_one, none_clean}
use Rattle.verdict.proofs.Flagged.{breach_as, spot_as}
use Rattle.verdict.proofs.Breakers.{barred_tally, below_tally, star_renewed, star_tally, chain_tally, cycle_tally, tally_first}
use Rattle.verdict.specs.Kept.{entry_of}
use Rattle.editing.specs.Entries.{Entries}
use Rattle.verdict.specs.Kept.{KeptBelow, KeptTally, KeptBreach, KeptVerdict, clean, broken}

-- there is one verdict by what is kept
module _ (ws marks kept : List ℕ) where
  -- the same count is passed on at the same spot
  counts : (b c : Breach) (y z : ℕ) → y ≡ z → KeptTally kept y (record { lowest = b.privilege; count = b.forbidden })
      → KeptTally kept z (record { lowest = c.privilege; count = c.forbidden }) → b.forbidden ≡ c.forbidden
  counts b c y z e t u = ap (λ (r : Tally). r.count) t ∙ ap (λ (w : ℕ). (entry_of kept w).count) e ∙ sym (ap (λ (r : Tally). r.count) u)

  passed : (b c : Breach) → b.condition ≡ c.condition → b.element ≡ c.element → b.i ≡ c.i → PassesOn ws marks (KeptTally kept) b → PassesOn ws marks (KeptTally kept) c
      → b.forbidden ≡ c.forbidden
  passed b c k x i (star e d t) (star f g u) = counts b c _ _ (ap (λ (w : ℕ). child_at ws w 0) x) t u
  passed b c k x i (cycle e t) (cycle f u) = counts b c _ _ (ap (λ (w : ℕ). child_at ws w b.i) x ∙ ap (λ (w : ℕ). child_at ws c.element w) i) t u
  passed b c k x i (star e d t) (replace f g is n) = absurd (d (subst⁻¹ (Barred ws marks) x g))
  passed b c k x i (replace e d is n) (star f g u) = absurd (g (subst (Barred ws marks) x d))
  passed b c k x i (replace e d is n) (replace f g js m) = n ∙ sym m
  passed b c k x i (replace e d is n) (chain f m) = n ∙ sym m
  passed b c k x i (chain e n) (replace f g is m) = n ∙ sym m
  passed b c k x i (chain e n) (chain f m) = n ∙ sym m
  passed b c k x i (star e d t) (chain f n) = absurd (omega (arith, ap condition_number (sym e ∙ k ∙ f)))
  passed b c k x i (star e d t) (cycle f u) = absurd (omega (arith, ap condition_number (sym e ∙ k ∙ f)))
  passed b c k x i (replace e d is n) (cycle f u) = absurd (omega (arith, ap condition_number (sym e ∙ k ∙ f)))
  passed b c k x i (chain e n) (star f g u) = absurd (omega (arith, ap condition_number (sym e ∙ k ∙ f)))
  passed b c k x i (chain e n) (cycle f u) = absurd (omega (arith, ap condition_number (sym e ∙ k ∙ f)))
  passed b c k x i (cycle e t) (star f g u) = absurd (omega (arith, ap condition_number (sym e ∙ k ∙ f)))
  passed b c k x i (cycle e t) (replace f g is n) = absurd (omega (arith, ap condition_number (sym e ∙ k ∙ f)))
  passed b c k x i (cycle e t) (chain f n) = absurd (omega (arith, ap condition_number (sym e ∙ k ∙ f)))

  -- one privilege breaks a spot
  star_privilege : {x p q : ℕ} → StarBroken ws marks (KeptBelow kept) x p → StarBroken ws marks (KeptBelow kept) x q → p ≡ q
  star_privilege (at_exchange b e) (at_exchange c f) = e ∙ sym f
  star_privilege (at_exchange b e) (at_below d r w) = absurd (d b)
  star_privilege (at_below d r w) (at_exchange b e) = absurd (d b)
  star_privilege (at_below d r w) (at_below f s v) = w.lowest ∙ sym v.lowest

  privilege_one : (k : Condition) (s : Spot) {p q : ℕ} → BreachOf ws marks (KeptBelow kept) k s p → BreachOf ws marks (KeptBelow kept) k s q → p ≡ q
  privilege_one None s h g = absurd h
  privilege_one InsertDelete s h g = star_privilege h.broken g.broken
  privilege_one Chain s h g = h.is ∙ sym g.is
  privilege_one Cycle s h g = h.below.lowest ∙ sym g.below.lowest

  breach_first : {b c : Breach} → KeptBreach ws marks kept b → KeptBreach ws marks kept c → b ≡ c
  breach_first {b} {c} f g =
      let e : spot_of b ≡ spot_of c = spot_one f.spot g.spot in
      breach_one b c e (privilege_one b.condition (spot_of b) f.breach (subst⁻¹ (λ (s : Spot). BreachBy ws marks (KeptBelow kept) s c.privilege) e g.breach))
      (passed b c (ap (λ (s : Spot). s.condition) e) (ap (λ (s : Spot). s.element) e) (ap (λ (s : Spot). s.i) e) f.count g.count)
      (chain_at_one f.chain (rw e g.chain))

  pub kept_one : {b c : Breach} → KeptVerdict ws marks kept b → KeptVerdict ws marks kept c → b ≡ c
  kept_one (clean n e) (clean m f) = e ∙ sym f
  kept_one {c = c} (clean n e) (broken g) = absurd (n (spot_of c) c.privilege g.breach)
  kept_one {b = b} (broken f) (clean m e) = absurd (m (spot_of b) b.privilege f.breach)
  kept_one (broken f) (broken g) = breach_first f g

-- where the entries are those of the marks, both tell the same
module _ {ws marks kept : List ℕ} (pol : Policy ws marks) (right : Entries ws marks kept) where
  -- what is kept tells of the right types that something is forbidden below them
  kept_agree : Agree ws (KeptBelow kept) (ForbiddenBelow ws marks)
  kept_agree = record { onto = λ y p l h. onto h (right.each y l); back = λ y q l w. ((entry_of kept y).lowest, record { some = λ z. none_many (tallied_many (right.each y l)) z q (belongs_below w.below.belongs) w; lowest = refl }) }
    where
      onto : {y p : ℕ} → KeptBelow kept y p → ForbiddenTally ws marks y (entry_of kept y) → (q : ℕ) × ForbiddenBelow ws marks y q
      onto {y} h (some l p least n) = ((entry_of kept y).lowest, p)
      onto h (nothing n e z) = absurd (h.some z)

  -- what is kept of a type is what is forbidden below it
  answered : (b : Breach) (y : ℕ) → y < types ws → KeptTally kept y (record { lowest = b.privilege; count = b.forbidden })
      → Tallied (ForbiddenBelow ws marks y) (privileges ws) b.privilege b.forbidden
  answered b y l e = subst⁻¹ (λ (r : Tally). ForbiddenTally ws marks y r) e (right.each y l)

  -- the numbers that are passed on are those that break the spot
  module _ (b : Breach) (f : KeptBreach ws marks kept b) where
    first : FirstSpot (IsBreach ws marks) (spot_of b)
    first = spot_as marks pol.accepted kept_agree f.spot

    known : {k : Condition} → b.condition ≡ k → BreachOf ws marks (ForbiddenBelow ws marks) k (spot_of b) first.broken.0
    known e = subst (λ (c : Condition). BreachOf ws marks (ForbiddenBelow ws marks) c (spot_of b) first.broken.0) e first.broken.1

    numbers : PassesOn ws marks (KeptTally kept) b → Tallied (IsBreach ws marks (spot_of b)) (privileges ws) b.privilege b.forbidden
    numbers (star e d t) =
        let h : InsertDeleteBreach ws marks (ForbiddenBelow ws marks) (spot_of b) first.broken.0 = known e in
        let inside = (facts pol.accepted).child_inside b.element 0 h.star.type (omega (arith, (facts pol.accepted).star_one b.element h.star)) in
        star_tally ws marks (spot_of b) e h (below_tally ws marks d (star_renewed ws marks d h.broken) (answered b (child_at ws b.element 0) inside t))
    numbers (replace e d is n) = rw n (star_tally ws marks (spot_of b) e (known e) (barred_tally ws marks d is))
    numbers (chain e n) =
        let h : ChainBreach ws marks (spot_of b) b.privilege = subst (λ (c : Condition). BreachOf ws marks (KeptBelow kept) c (spot_of b) b.privilege) e f.breach in
        rw n (chain_tally ws marks (spot_of b) e (known e) h.is)
    numbers (cycle e t) =
        let h : CycleBreach ws marks (ForbiddenBelow ws marks) (spot_of b) first.broken.0 = known e in
        let inside = (facts pol.accepted).child_inside b.element b.i h.choice.type (reached_from h.reached) in
        cycle_tally ws marks (spot_of b) e h (answered b (child_at ws b.element b.i) inside t)

    first_breach : FirstBreach ws marks b
    first_breach = tally_first ws marks first (numbers f.count) f.chain

  pub kept_verdict : {b : Breach} → KeptVerdict ws marks kept b → Verdict ws marks b
  kept_verdict (clean n e) = verdict.clean (none_clean ws marks (λ s p h. let r = breach_as marks pol.accepted kept_agree.back s p h in n s r.0 r.1)) e
  kept_verdict {b} (broken f) = verdict.broken (first_breach b f)
