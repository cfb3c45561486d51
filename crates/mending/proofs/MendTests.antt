-- Mending, computed by tests of what specs/ says: what the stated rule gives, with its law, for every run of words and of marks. Assumes
-- nothing.
use Rattle.std.proofs.Common.{ℕ, zero, suc, ◌+◌, ◌≤◌, ◌≡◌, refl, inl, inr, Bool, true, false, List, arith, T, set}
use Rattle.table.specs.Steps.Found.{Lowest}
use Rattle.table.specs.Rule.{count_of}
use Rattle.table.specs.Privilege.{privileges, delete_of, exchange_of, replace_of}
use Rattle.std.specs.Prelude.{Option as Place, Some as At, None as Nowhere}
use Rattle.table.proofs.Test.{Test, is_equal, both, either, fails, means, settle, lowest_of, lowest_of_lem}
use Rattle.policy.specs.Marks.{Allowed}
use Rattle.table.specs.Plus.{last, next}
use Rattle.policy.specs.Reached.{Reached}
use Rattle.policy.specs.Renewed.{Both}
use Rattle.verdict.specs.Conditions.{Clean}
use Rattle.verdict.specs.Below.{ForbiddenBelow}
use Rattle.verdict.specs.Breaches.{spot_of, BreachOf, IsBreach, FirstSpot, FirstBreach, Verdict, clean, broken}
use Rattle.verdict.specs.declared.Spot.{Spot}
use Rattle.verdict.specs.declared.Breach.{Breach}
use Rattle.verdict.specs.declared.Condition.{Condition}
use Rattle.verdict.specs.declared.Condition.TheVariants.{None, InsertDelete, Chain, Cycle}
use Rattle.verdict.proofs.PolicyTests.{step, reached, both_allowed, verdict_by, verdict_by_lem}
use Rattle.mending.specs.Mends.{Leads, LowestLead, StarTakes, delete, exchange, TakesFor, Takes, Mends, done, more}
use Rattle.mending.proofs.Counting.{allowed_in, allowed_less}
use Rattle.policy.proofs.Policies.{marked_within}
use Rattle.mending.proofs.Mended.{takes_allowed, takes_below}

-- something was found, and it has the property
abbrev Hits : (ℕ → Type 0) → Place ℕ → Type 0
Hits P (At p) = P p
Hits P Nowhere = ⊥

-- what the rule takes
module _ (ws m : List ℕ) where
  abbrev pub leads : (x i j k : ℕ) → Test (Leads ws m x i j k)
  leads x i j k = means (λ h. record { step = h.0; on = h.1 }) (λ h. (h.step, h.on))
      (both (step ws m x i k) (either (is_equal k j) (reached ws m x k j)))

  some_lead : {x i j : ℕ} → Reached ws (Allowed m) x i j → (k : ℕ) × Leads ws m x i j k
  some_lead {j = j} (last s) = (j, record { step = s; on = inl refl })
  some_lead (next k s r) = (k, record { step = s; on = inr r })

  -- the replacement of i by the k that was found
  abbrev replace_by : ℕ → ℕ → Place ℕ → Place ℕ
  replace_by x i (At k) = At (replace_of ws x i k)
  replace_by x i Nowhere = Nowhere

  -- by the lowest k that leads from i to j
  abbrev lead_by : ℕ → ℕ → ℕ → Place ℕ
  lead_by x i j = replace_by x i (lowest_of (count_of ws x) (λ k. fails (leads x i j k)))

  lead_by_lem : (x i j : ℕ) → Reached ws (Allowed m) x i j → Hits (λ p. LowestLead ws m x i j p) (lead_by x i j)
  lead_by_lem x i j r = go (lowest_of (count_of ws x) (λ k. fails (leads x i j k))) (lowest_of_lem (count_of ws x) (λ k. fails (leads x i j k)))
    where
      go : (k : Place ℕ) → Lowest (λ k. ¬ Leads ws m x i j k) (count_of ws x) k → Hits (λ p. LowestLead ws m x i j p) (replace_by x i k)
      go (At k) h = record {
        k = k;
        leads = elim (settle (leads x i j k)) [ inl l ↦ l | inr f ↦ absurd (h.fails f) ];
        lowest = h.before;
        is = refl;
      }
      go Nowhere h = let l = some_lead r in h l.0 l.1.step.can.to l.1

  -- at a breach of each condition
  abbrev pick_by : ℕ → Bool → ℕ
  pick_by x true = delete_of ws x
  pick_by x false = exchange_of ws x

  abbrev star_by : ℕ → ℕ
  star_by x = pick_by x (both_allowed ws m x).run

  star_by_lem : (x : ℕ) → StarTakes ws m x (star_by x)
  star_by_lem x = go (both_allowed ws m x).run (both_allowed ws m x).out (both_allowed ws m x).into
    where
      go : (b : Bool) → (T b → Both ws (Allowed m) x) → (Both ws (Allowed m) x → T b) → StarTakes ws m x (pick_by x b)
      go true out into = delete (out tt) refl
      go false out into = exchange into refl

  abbrev taken_at : Condition → Spot → Place ℕ
  taken_at None s = Nowhere
  taken_at InsertDelete s = At (star_by s.element)
  taken_at Chain s = lead_by s.element s.i s.j
  taken_at Cycle s = lead_by s.element s.i s.j

  take_at : (c : Condition) (s : Spot) (q : ℕ) → BreachOf ws m (ForbiddenBelow ws m) c s q → Hits (λ p. TakesFor ws m c s p) (taken_at c s)
  take_at None s q h = h
  take_at InsertDelete s q h = star_by_lem s.element
  take_at Chain s q h = lead_by_lem s.element s.i s.j h.reached
  take_at Cycle s q h = let r : Reached ws (Allowed m) s.element s.i s.j = rw h.same h.reached in lead_by_lem s.element s.i s.j r

  -- at the first spot, or nothing where there is none
  abbrev pub take_by : Place ℕ
  take_by = let b = verdict_by ws m in taken_at b.condition (spot_of b)

  abbrev pub Taken : Place ℕ → Type 0
  Taken (At p) = (s : Spot) × FirstSpot (IsBreach ws m) s × Takes ws m s p
  Taken Nowhere = Clean ws m

  pub take_by_lem : Taken take_by
  take_by_lem = go (verdict_by ws m) (verdict_by_lem ws m)
    where
      first : (b : Breach) → FirstBreach ws m b → (r : Place ℕ) → Hits (λ p. Takes ws m (spot_of b) p) r → Taken r
      first b f (At p) h = (spot_of b, f.spot, h)
      first b f Nowhere h = absurd h

      go : (b : Breach) → Verdict ws m b → Taken (taken_at b.condition (spot_of b))
      go b (clean q e) = rw e q
      go b (broken f) = first b f (taken_at b.condition (spot_of b)) (take_at b.condition (spot_of b) b.privilege f.breach)

-- mended marks, and how many were taken
pub record Mended : Type 0 where
  pub marks : List ℕ
  pub count : ℕ

module _ (ws : List ℕ) where
  -- the rule, followed until nothing is taken, and at most so often
  abbrev pub mend_within : ℕ → List ℕ → Mended
  mend_within zero m = record { marks = m; count = 0 }
  mend_within (suc left) m = elim (take_by ws m) [
    | Nowhere ↦ record { marks = m; count = 0 }
    | At p ↦ let rest = mend_within left (set m p 2) in record { marks = rest.marks; count = suc rest.count }
  ]

  -- what is taken was allowed, so there is one less
  taken_less : (m : List ℕ) (p : ℕ) → Taken ws m (At p) → allowed_in m (privileges ws) ≡ allowed_in (set m p 2) (privileges ws) + 1
  taken_less m p (s, f, t) =
      let a : Allowed m p = takes_allowed ws m s p f t in
      allowed_less m p (marked_within m p (omega arith)) a (privileges ws) (takes_below ws m s p f t)

  -- so often as there are allowed marks is enough
  pub mend_within_lem : (left : ℕ) (m : List ℕ) → allowed_in m (privileges ws) ≤ left → Mends ws m (mend_within left m).marks (mend_within left m).count
  mend_within_lem zero m l = go (take_by ws m) (take_by_lem ws m)
    where
      go : (r : Place ℕ) → Taken ws m r → Mends ws m m 0
      go Nowhere q = done q
      go (At p) t = absurd (omega (arith, taken_less m p t))
  mend_within_lem (suc left) m l = go (take_by ws m) (take_by_lem ws m) (λ p t. mend_within_lem left (set m p 2) (omega (arith, taken_less m p t)))
    where
      go : (r : Place ℕ) → Taken ws m r
          → ((p : ℕ) → Taken ws m (At p) → Mends ws (set m p 2) (mend_within left (set m p 2)).marks (mend_within left (set m p 2)).count)
          → let n : Mended = elim r [
            | Nowhere ↦ record { marks = m; count = 0 }
            | At p ↦ let rest = mend_within left (set m p 2) in record { marks = rest.marks; count = suc rest.count }
          ] in Mends ws m n.marks n.count
      go Nowhere q rest = done q
      go (At p) t rest = more t.0 p t.1 t.2 (rest p t)

  abbrev pub mend_by : List ℕ → Mended
  mend_by m = mend_within (allowed_in m (privileges ws)) m

  pub mend_by_lem : (m : List ℕ) → Mends ws m (mend_by m).marks (mend_by m).count
  mend_by_lem m = mend_within_lem (allowed_in m (privileges ws)) m (omega arith)
