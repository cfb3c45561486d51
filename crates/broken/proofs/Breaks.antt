-- What breaks a condition somewhere, beside what else is said of a policy: a clean one breaks none, one that breaks none is clean, and the first breach
-- is of one that is broken. Each condition by itself is what Clean says of it. Assumes nothing.
use Rattle.std.proofs.Common.{ℕ, refl, List}
use Rattle.table.specs.Rule.{IsChoice, IsStar, child_at}
use Rattle.table.specs.Privilege.{exchange_of, replace_of, Exchangeable, Replaceable}
use Rattle.policy.specs.Marks.{Allowed, Forbidden}
use Rattle.policy.specs.Reached.{Reached}
use Rattle.policy.specs.Renewed.{Both, Renewed, Barred}
use Rattle.verdict.specs.Below.{PrivilegeBelow, ForbiddenBelow}
use Rattle.verdict.specs.Conditions.{Clean}
use Rattle.verdict.specs.Breaches.{spot_of, StarBroken, at_exchange, at_below, BreachOf, FirstBreach}
use Rattle.verdict.specs.declared.Breach.{Breach}
use Rattle.verdict.specs.declared.Condition.{Condition}
use Rattle.verdict.specs.declared.Condition.TheVariants.{InsertDelete, Chain, Cycle}
use Rattle.verdict.specs.Steps.Visits.{star_spot}
use Rattle.verdict.proofs.Firsts.{clean_none}
use Rattle.verdict.proofs.Breakers.{broken_as}
use Rattle.broken.specs.Breaks.{Breaks}

module _ {ws marks : List ℕ} where
  -- what is broken, by its condition
  breaks_as : {c : Condition} (b : Breaks ws c marks) → BreachOf ws marks (ForbiddenBelow ws marks) c b.spot b.privilege
  breaks_as {c} b = broken_as ws marks (ForbiddenBelow ws marks) b.spot b.privilege b.breach c b.of

  -- a clean policy breaks no condition
  pub clean_unbroken : Clean ws marks → (c : Condition) → ¬ Breaks ws c marks
  clean_unbroken q c b = clean_none ws marks q b.spot b.privilege b.breach

  -- the condition of the first breach is broken
  pub first_breaks : {b : Breach} → FirstBreach ws marks b → Breaks ws b.condition marks
  first_breaks {b} f = record { spot = spot_of b; privilege = b.privilege; of = refl; breach = f.breach }

  -- condition 1 is not broken exactly if at no star the exchange is forbidden where insert and delete are both allowed, nor anything below the child
  -- where those two or the exchange are
  pub star_unbroken : ((x : ℕ) → Exchangeable ws x → Both ws (Allowed marks) x → ¬ Forbidden marks (exchange_of ws x))
      → ((x p : ℕ) → IsStar ws x → Renewed ws (Allowed marks) x → PrivilegeBelow ws p (child_at ws x 0) → ¬ Forbidden marks p)
      → ¬ Breaks ws InsertDelete marks
  star_unbroken exchange renewal b =
      let h = breaks_as b in
      elim h.broken [
        | at_exchange f k ↦ exchange b.spot.element f.can f.both f.forbidden
        | at_below d r w ↦ renewal b.spot.element b.privilege h.star r w.below w.forbidden
      ]

  pub unbroken_star : ¬ Breaks ws InsertDelete marks
      → ((x : ℕ) → Exchangeable ws x → Both ws (Allowed marks) x → ¬ Forbidden marks (exchange_of ws x))
      × ((x p : ℕ) → IsStar ws x → Renewed ws (Allowed marks) x → PrivilegeBelow ws p (child_at ws x 0) → ¬ Forbidden marks p)
  unbroken_star n = (
    λ x c b f. unbarred x (record { can = c; both = b; forbidden = f }),
    λ x p s r w f. whole x p s (at_below (unbarred x) r (record { below = w; forbidden = f })),
  )
    where
      whole : (x p : ℕ) → IsStar ws x → ¬ StarBroken ws marks (ForbiddenBelow ws marks) x p
      whole x p s b = n (record { spot = star_spot x; privilege = p; of = refl; breach = record { star = s; zero_i = refl; zero_j = refl; broken = b } })

      unbarred : (x : ℕ) → ¬ Barred ws marks x
      unbarred x b = whole x (exchange_of ws x) b.can.star (at_exchange b refl)

  -- condition 2 is not broken exactly if at no choice the privilege to replace i by j is forbidden where j is reached from i
  pub chain_unbroken : ((x i j : ℕ) → IsChoice ws x → Reached ws (Allowed marks) x i j → Replaceable ws x i j → ¬ Forbidden marks (replace_of ws x i j))
      → ¬ Breaks ws Chain marks
  chain_unbroken chain b =
      let s = b.spot in
      let h = breaks_as b in
      chain s.element s.i s.j h.choice h.reached h.can (rw h.is at h.forbidden)

  pub unbroken_chain : ¬ Breaks ws Chain marks
      → (x i j : ℕ) → IsChoice ws x → Reached ws (Allowed marks) x i j → Replaceable ws x i j → ¬ Forbidden marks (replace_of ws x i j)
  unbroken_chain n x i j s r c f = n (record {
    spot = record { condition = Chain; element = x; i = i; j = j };
    privilege = replace_of ws x i j;
    of = refl;
    breach = record { choice = s; reached = r; can = c; is = refl; forbidden = f };
  })

  -- condition 3 is not broken exactly if at no choice anything below the child at i is forbidden where i is reached from i
  pub cycle_unbroken : ((x i p : ℕ) → IsChoice ws x → Reached ws (Allowed marks) x i i → PrivilegeBelow ws p (child_at ws x i) → ¬ Forbidden marks p)
      → ¬ Breaks ws Cycle marks
  cycle_unbroken cycle b =
      let s = b.spot in
      let h = breaks_as b in
      cycle s.element s.i b.privilege h.choice h.reached h.below.below h.below.forbidden

  pub unbroken_cycle : ¬ Breaks ws Cycle marks
      → (x i p : ℕ) → IsChoice ws x → Reached ws (Allowed marks) x i i → PrivilegeBelow ws p (child_at ws x i) → ¬ Forbidden marks p
  unbroken_cycle n x i p s r w f = n (record {
    spot = record { condition = Cycle; element = x; i = i; j = i };
    privilege = p;
    of = refl;
    breach = record { choice = s; same = refl; reached = r; below = record { below = w; forbidden = f } };
  })

  -- a policy that breaks no condition is clean
  pub unbroken_clean : ¬ Breaks ws InsertDelete marks → ¬ Breaks ws Chain marks → ¬ Breaks ws Cycle marks → Clean ws marks
  unbroken_clean star chain cycle = record {
    exchange = (unbroken_star star).0;
    renewal = (unbroken_star star).1;
    chain = unbroken_chain chain;
    cycle = unbroken_cycle cycle;
  }
