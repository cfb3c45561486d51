-- Where a type has a breach, something below it is forbidden. Assumes nothing.
use Rattle.std.proofs.Common.{ℕ, ◌<◌, List, arith}
use Rattle.table.specs.Words.{types}
use Rattle.table.specs.Rule.{child_at, count_of, IsStar}
use Rattle.table.specs.Privilege.{exchange, replace}
use Rattle.table.specs.Below.{Below, here, down}
use Rattle.table.specs.Check.{Accepted}
use Rattle.table.proofs.Belows.{below_trans}
use Rattle.table.proofs.Privileges.{edit_belongs}
use Rattle.table.proofs.Facts.{facts, child_at_lem}
use Rattle.policy.proofs.Reaches.{reached_from}
use Rattle.verdict.specs.Below.{ForbiddenBelow}
use Rattle.verdict.specs.Breaches.{StarBroken, at_exchange, at_below, BreachOf, IsBreach}
use Rattle.verdict.specs.declared.Spot.{Spot}
use Rattle.verdict.specs.declared.Condition.{Condition}
use Rattle.verdict.specs.declared.Condition.TheVariants.{None, InsertDelete, Chain, Cycle}

-- what is forbidden below a type below y is forbidden below y
pub forbidden_up : {ws marks : List ℕ} {x y q : ℕ} → ForbiddenBelow ws marks x q → Below ws x y → ForbiddenBelow ws marks y q
forbidden_up f b = record { below = record { type = f.below.type; belongs = f.below.belongs; below = below_trans f.below.below b }; forbidden = f.forbidden }

child_of : {ws : List ℕ} {x i : ℕ} → Accepted ws → x < types ws → i < count_of ws x → Below ws (child_at ws x i) x
child_of {ws} {x} {i} a l h = down (child_at ws x i) (child_at_lem a x i l h) here

-- a breach at x: something is forbidden below x
pub breach_spoils : {ws m : List ℕ} → Accepted ws → (s : Spot) (p : ℕ) → IsBreach ws m s p → (q : ℕ) × ForbiddenBelow ws m s.element q
breach_spoils {ws} {m} a s p h = go s.condition h
  where
    star : {x : ℕ} → IsStar ws x → StarBroken ws m (ForbiddenBelow ws m) x p → ForbiddenBelow ws m x p
    star {x} i (at_exchange f e) = record {
      below = record { type = x; belongs = rw e (edit_belongs ws (exchange x) f.can); below = here };
      forbidden = rw e f.forbidden;
    }
    star {x} i (at_below d r w) = forbidden_up w (child_of a i.type (omega (arith, (facts a).star_one x i)))

    go : (c : Condition) → BreachOf ws m (ForbiddenBelow ws m) c s p → (q : ℕ) × ForbiddenBelow ws m s.element q
    go None g = absurd g
    go InsertDelete g = (p, star g.star g.broken)
    go Chain g = (
      p,
      record {
        below = record { type = s.element; belongs = rw g.is (edit_belongs ws (replace s.element s.i s.j) g.can); below = here };
        forbidden = g.forbidden;
      },
    )
    go Cycle g = (p, forbidden_up g.below (child_of a g.choice.type (reached_from g.reached)))
