-- A search by flags finds what a search by what is forbidden below each type would, if they tell of the same types that something is forbidden below
-- them. Assumes nothing.
use Rattle.std.proofs.Common.{Option, Some, ℕ, ◌<◌, refl, List, arith}
use Rattle.std.proofs.Common as std
use Rattle.table.specs.Words.{types}
use Rattle.table.specs.Rule.{child_at, IsStar}
use Rattle.table.specs.Check.{Accepted}
use Rattle.table.proofs.Facts.{facts}
use Rattle.policy.proofs.Reaches.{reached_from}
use Rattle.verdict.specs.Breaches.{StarBroken, at_exchange, at_below, BreachOf, BreachBy, FirstSpot}
use Rattle.verdict.specs.Steps.Spoils.{Agree}
use Rattle.verdict.specs.Steps.Visits.{Searched}
use Rattle.verdict.specs.Steps.Breakers.{Breakable}
use Rattle.verdict.specs.declared.Spot.{Spot}
use Rattle.verdict.specs.declared.Condition.{Condition}
use Rattle.verdict.specs.declared.Condition.TheVariants.{None, InsertDelete, Chain, Cycle}

module _ {ws : List ℕ} (marks : List ℕ) (a : Accepted ws) where
  -- what is below the child at a spot
  module _ {B C : ℕ → ℕ → Type 0} (so : (y p : ℕ) → y < types ws → B y p → (q : ℕ) × C y q) where
    star_as : (x p : ℕ) → IsStar ws x → StarBroken ws marks B x p → (q : ℕ) × StarBroken ws marks C x q
    star_as x p s (at_exchange b e) = (p, at_exchange b e)
    star_as x p s (at_below d r w) =
        let below = so (child_at ws x 0) p ((facts a).child_inside x 0 s.type (omega (arith, (facts a).star_one x s))) w in
        (below.0, at_below d r below.1)

    move : (k : Condition) (s : Spot) (p : ℕ) → BreachOf ws marks B k s p → (q : ℕ) × BreachOf ws marks C k s q
    move None s p h = absurd h
    move InsertDelete s p h =
        let r = star_as s.element p h.star h.broken in
        (r.0, record { star = h.star; zero_i = h.zero_i; zero_j = h.zero_j; broken = r.1 })
    move Chain s p h = (p, h)
    move Cycle s p h =
        let x = s.element in
        let below = so (child_at ws x s.i) p ((facts a).child_inside x s.i h.choice.type (reached_from h.reached)) h.below in
        (below.0, record { choice = h.choice; same = h.same; reached = h.reached; below = below.1 })

    pub breach_as : (s : Spot) (p : ℕ) → BreachBy ws marks B s p → (q : ℕ) × BreachBy ws marks C s q
    breach_as s p h = move s.condition s p h

  -- a broken spot is one that can be
  pub breach_can : (B : ℕ → ℕ → Type 0) (s : Spot) (p : ℕ) → BreachBy ws marks B s p → Breakable ws marks s
  breach_can B s p h = breach_as (λ y q l w. (q, refl)) s p h

  -- the first spot is the same
  pub spot_as : {B C : ℕ → ℕ → Type 0} {s : Spot} → Agree ws B C → FirstSpot (BreachBy ws marks B) s → FirstSpot (BreachBy ws marks C) s
  spot_as {B} {C} {s} g f = record {
    broken = breach_as g.onto s f.broken.0 f.broken.1;
    first = λ t q h l. let r = breach_as g.back t q h in f.first t r.0 r.1 l;
  }

  -- and so is what a search finds
  pub searched_as : {B C : ℕ → ℕ → Type 0} → Agree ws B C → (found : Option Spot) → Searched (BreachBy ws marks B) found → Searched (BreachBy ws marks C) found
  searched_as g std.None n = λ t q h. let r = breach_as g.back t q h in n t r.0 r.1
  searched_as g (Some s) f = spot_as g f
