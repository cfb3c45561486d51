-- What is read of kept entries, and the breach that it makes. Assumes nothing.
use Rattle.std.proofs.Common.{ℕ, ◌≤◌, ◌<◌, ◌≡◌, refl, sym, ap, subst, ◌∙◌, ◌≢◌, ◌⊎◌, inl, inr, List, arith, length}
use mathlib.Core.Path.{subst⁻¹}
use Rattle.table.specs.Rule.{child_at}
use Rattle.table.specs.HowMany.{Tallied}
use Rattle.table.specs.Privilege.{privileges, exchange_of, replace_of}
use Rattle.table.specs.Check.{Accepted}
use Rattle.table.proofs.Lists.{le_or_lt}
use Rattle.policy.specs.Renewed.{Barred}
use Rattle.verdict.specs.Below.{ForbiddenBelow}
use Rattle.verdict.specs.Breaches.{spot_of, at_exchange, at_below, InsertDeleteBreach, ChainBreach, CycleBreach, BreachOf, BreachBy, IsBreach}
use Rattle.verdict.specs.Breaches.{FirstSpot, StarBroken, FirstBreach, PassesOn, star, replace, chain, cycle}
use Rattle.verdict.specs.Kept.{entry_of, KeptBelow, KeptTally, KeptBreach}
use Rattle.verdict.specs.Steps.Spoils.{Flag, up, down}
use Rattle.verdict.specs.Steps.Breakers.{Breakable, BreakerAt, BreachWith}
use Rattle.verdict.specs.Steps.Breakers as breaker
use Rattle.verdict.specs.Steps.Reading.{FlagOf, none, ChildIn, TallyBy, FirstBy}
use Rattle.verdict.specs.Steps.Reading as reading
use Rattle.verdict.specs.declared.Breach.{Breach}
use Rattle.verdict.specs.declared.Spot.{Spot}
use Rattle.verdict.specs.declared.Condition.{Condition}
use Rattle.verdict.specs.declared.Condition.TheVariants.{InsertDelete, Chain, Cycle}
use Rattle.verdict.specs.declared.below.Tally.{Tally}
use Rattle.verdict.specs.declared.breaches.Breaker.{Breaker}
use Rattle.verdict.specs.declared.breaches.Breaker.TheVariants.{Own, Below}
use Rattle.verdict.proofs.Flagged.{breach_can}
use Rattle.verdict.proofs.Breakers.{own_tally, child_tally, tally_first}

-- a flag tells whether there is something by what is kept
pub kept_flag : (kept : List ℕ) (t : ℕ) {r : ℕ} → FlagOf (entry_of kept t).count r → Flag (KeptBelow kept t) r
kept_flag kept t (none e f) = down (λ p h. h.some e) f
kept_flag kept t (reading.some d f) = up (entry_of kept t).lowest (record { some = d; lowest = refl }) f

-- what is told of what breaks a spot, by what is kept
abbrev KeptOf : List ℕ → Breaker → Tally → Type 0
KeptOf kept (Own p) t = t ≡ record { lowest = p; count = 1 }
KeptOf kept (Below y) t = t ≡ entry_of kept y

-- what breaks a spot, with what is kept of it, makes the breach
module _ (ws marks kept : List ℕ) (b : Breach) (f : FirstSpot (BreachBy ws marks (KeptBelow kept)) (spot_of b)) where
  abbrev K : ℕ → ℕ → Type 0
  K = KeptBelow kept

  module _ {k : Condition} (e : b.condition ≡ k) where
    out : BreachOf ws marks K k (spot_of b) f.broken.0
    out = subst (λ (c : Condition). BreachOf ws marks K c (spot_of b) f.broken.0) e f.broken.1

    into : (p : ℕ) → BreachOf ws marks K k (spot_of b) p → BreachBy ws marks K (spot_of b) p
    into p h = subst⁻¹ (λ (c : Condition). BreachOf ws marks K c (spot_of b) p) e h

  -- the numbers of the breach are those that are kept of type y
  abbrev Are : ℕ → Type 0
  Are y = (b.privilege ≡ (entry_of kept y).lowest) × (b.forbidden ≡ (entry_of kept y).count)

  told : (y : ℕ) → Are y → KeptTally kept y (record { lowest = b.privilege; count = b.forbidden })
  told y n = λ d. record { lowest = n.0 d; count = n.1 d }

  module _ (e : b.condition ≡ InsertDelete) where
    star_here : InsertDeleteBreach ws marks K (spot_of b) f.broken.0 → {p : ℕ} → StarBroken ws marks K b.element p → InsertDeleteBreach ws marks K (spot_of b) p
    star_here h s = record { star = h.star; zero_i = h.zero_i; zero_j = h.zero_j; broken = s }

    by_exchange : Barred ws marks b.element → b.privilege ≡ exchange_of ws b.element → BreachBy ws marks K (spot_of b) b.privilege
    by_exchange c is = into e b.privilege (star_here (out e) (at_exchange c is))

    by_child : ¬ Barred ws marks b.element → Are (child_at ws b.element 0) → BreachBy ws marks K (spot_of b) b.privilege
    by_child d n = into e b.privilege (star_here (out e) (go (out e).broken))
      where
        go : StarBroken ws marks K b.element f.broken.0 → StarBroken ws marks K b.element b.privilege
        go (at_exchange c is) = absurd (d c)
        go (at_below a r w) = at_below a r (record { some = w.some; lowest = n.0 })

  by_replacement : b.condition ≡ Chain → b.privilege ≡ replace_of ws b.element b.i b.j → BreachBy ws marks K (spot_of b) b.privilege
  by_replacement e is = let h : ChainBreach ws marks (spot_of b) f.broken.0 = out e in into e b.privilege (rw (h.is ∙ sym is) at h)

  by_cycle : b.condition ≡ Cycle → Are (child_at ws b.element b.i) → BreachBy ws marks K (spot_of b) b.privilege
  by_cycle e n =
      let h : CycleBreach ws marks K (spot_of b) f.broken.0 = out e in
      into e b.privilege (record { choice = h.choice; same = h.same; reached = h.reached; below = record { some = h.below.some; lowest = n.0 } })

  module _ {t : Tally} (l : b.privilege ≡ t.lowest) (c : b.forbidden ≡ t.count) where
    are : {y z : ℕ} → t ≡ entry_of kept y → y ≡ z → Are z
    are {y} e g = let here : Are y = (l ∙ ap (λ (r : Tally). r.lowest) e, c ∙ ap (λ (r : Tally). r.count) e) in rw g at here

    alone : {p : ℕ} → t ≡ record { lowest = p; count = 1 } → (b.privilege ≡ p) × (b.forbidden ≡ 1)
    alone e = (l ∙ ap (λ (r : Tally). r.lowest) e, c ∙ ap (λ (r : Tally). r.count) e)

    pub made : {r : Breaker} → BreakerAt ws marks (spot_of b) r → KeptOf kept r t → BreachBy ws marks K (spot_of b) b.privilege × PassesOn ws marks (KeptTally kept) b
    made (breaker.exchange e d is) g = let a = alone g in (by_exchange e d (a.0 ∙ is), replace e d (a.0 ∙ is) a.1)
    made (breaker.replacement e is) g = let a = alone g in (by_replacement e (a.0 ∙ is), chain e a.1)
    made (breaker.star e d i is) g = let a = are g is in (by_child e d a, star e d (told _ a))
    made (breaker.cycle e i is) g = let a = are g is in (by_cycle e a, cycle e (told _ a))

kept_broken : (ws marks kept : List ℕ) (s : Spot) {r : Breaker} {t : Tally} {b : Breach} → FirstSpot (BreachBy ws marks (KeptBelow kept)) s → BreakerAt ws marks s r
    → KeptOf kept r t → BreachWith ws marks s t b → KeptBreach ws marks kept b
kept_broken ws marks kept s {r} {t} {b} f d g w =
    let here : FirstSpot (BreachBy ws marks (KeptBelow kept)) (spot_of b) = rw w.at f in
    let m = made ws marks kept b here w.privilege w.forbidden {r = r} (rw w.at d) g in
    record { spot = here; breach = m.0; count = m.1; chain = rw w.at w.chain }

-- where entries are lent, the breach goes by them
pub read_broken : (ws marks kept : List ℕ) (s : Spot) (r : Breaker) {t : Tally} {b : Breach} → length kept ≢ 0 → FirstSpot (BreachBy ws marks (KeptBelow kept)) s
    → BreakerAt ws marks s r → TallyBy ws marks kept r t → BreachWith ws marks s t b → KeptBreach ws marks kept b
read_broken ws marks kept s (Own p) d f at told w = kept_broken ws marks kept s f at told w
read_broken ws marks kept s (Below y) d f at told w = kept_broken ws marks kept s f at (told.read d) w

-- where none are, by the marks
pub worked_broken : (ws marks kept : List ℕ) (s : Spot) (r : Breaker) {t : Tally} {b : Breach} → length kept ≡ 0 → FirstSpot (IsBreach ws marks) s
    → BreakerAt ws marks s r → TallyBy ws marks kept r t → BreachWith ws marks s t b → FirstBreach ws marks b
worked_broken ws marks kept s r {t} {b} e f at told w = tally_first ws marks (rw w.at f) (rw (w.at, w.privilege, w.forbidden) (go r at told)) (rw w.at w.chain)
  where
    go : (r : Breaker) → BreakerAt ws marks s r → TallyBy ws marks kept r t → Tallied (IsBreach ws marks s) (privileges ws) t.lowest t.count
    go (Own p) d g = subst⁻¹ (λ (x : Tally). Tallied (IsBreach ws marks s) (privileges ws) x.lowest x.count) g (own_tally ws marks s f.broken.0 f.broken.1 d)
    go (Below y) d g = child_tally ws marks s f.broken.0 f.broken.1 d (g.worked e)

-- a first spot is broken, by the marks or by what is kept
pub first_can : {ws : List ℕ} (marks kept : List ℕ) (s : Spot) → Accepted ws → FirstBy ws marks kept s → Breakable ws marks s
first_can {ws} marks kept s a f = go (le_or_lt (length kept) 0)
  where
    go : (length kept ≤ 0) ⊎ (0 < length kept) → Breakable ws marks s
    go (inl l) = let b = (f.worked (omega arith)).broken in breach_can marks a (ForbiddenBelow ws marks) s b.0 b.1
    go (inr l) = let b = (f.read (omega arith)).broken in breach_can marks a (KeptBelow kept) s b.0 b.1
