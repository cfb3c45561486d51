-- What the rule takes next at a type that is visited, from what the search has found. Assumes nothing.
use Prim.Native.Nat.{ℕ, ◌+◌, ◌<◌}
use mathlib.Core.Path.{◌≡◌, refl, sym, ap, subst, ◌∙◌}
use mathlib.Core.Logic.{◌≢◌, ◌⊎◌, inl, inr}
use mathlib.Core.Bool.{true}
use mathlib.Core.List.{List}
use Rattle.std.proofs.Common.{None}
use native.Mathlib.Omega.{arith}
use Rattle.table.specs.Plus.{last, next}
use Rattle.table.specs.Rule.{rule_at, kind_in, IsChoice, IsStar, count_of}
use Rattle.table.specs.Steps.Numbering.{NumberedAs, replace_in}
use Rattle.table.specs.declared.privilege.Numbering.{Numbering}
use Rattle.table.proofs.Lowest.{told_yes}
use Rattle.table.proofs.Privileges.{replace_in_lem}
use Rattle.policy.specs.Marks.{Allowed}
use Rattle.policy.specs.Reached.{Step, Reached}
use Rattle.policy.specs.Steps.Squares.{marked, Square}
use Rattle.policy.proofs.Reaches.{reached_from, reached_to}
use Rattle.policy.proofs.SquareLaws.{step_out, step_into, told_marked}
use Rattle.verdict.specs.Below.{ForbiddenBelow}
use Rattle.verdict.specs.Breaches.{condition_number, IsBreach, FirstSpot}
use Rattle.verdict.specs.Steps.Spoils.{Flagged}
use Rattle.verdict.specs.Steps.Visits.{Searched, BreachAt}
use Rattle.verdict.specs.declared.Spot.{Spot}
use Rattle.verdict.specs.declared.Condition.{Condition}
use Rattle.verdict.specs.declared.Condition.TheVariants.{Cycle}
use Rattle.verdict.proofs.Firsts.{CleanBefore, clean_more, at_none, at_first}
use Rattle.verdict.proofs.Breached.{plain_none, star_only, choice_only}
use Rattle.verdict.proofs.Flagged.{breach_as, spot_as}
use Rattle.mending.specs.Mends.{Leads, LowestLead, StarTakes, TakesFor}
use Rattle.mending.specs.Steps.Taking.{CleanUpTo, Visited, LeadsIn, LowestIn, TakenAt}

-- the square's leads are the choice's
module _ {ws m : List ℕ} {x : ℕ} {n : Numbering} {square : List ℕ} (numbered : NumberedAs ws x n) (choice : IsChoice ws x)
    (tells : Square (count_of ws x) (Reached ws (Allowed m) x) square) where
  lead_out : {i j k : ℕ} → j < count_of ws x → LeadsIn m n square i j k → Leads ws m x i j k
  lead_out {i} {j} {k} hj l = record { step = s; on = go l.on }
    where
      s : Step ws (Allowed m) x i k
      s = step_out numbered choice m i k l.step

      go : (k ≡ j) ⊎ (marked square k j ≡ true) → (k ≡ j) ⊎ Reached ws (Allowed m) x k j
      go (inl e) = inl e
      go (inr e) = inr (told_yes (marked square k j) (tells.tells k j s.can.to hj) e)

  lead_into : {i j k : ℕ} → Leads ws m x i j k → LeadsIn m n square i j k
  lead_into {i} {j} {k} l = record { step = step_into numbered choice m i k l.step; on = go l.on }
    where
      go : (k ≡ j) ⊎ Reached ws (Allowed m) x k j → (k ≡ j) ⊎ (marked square k j ≡ true)
      go (inl e) = inl e
      go (inr r) = inr (told_marked tells k j (reached_from r) (reached_to r) r).is

  -- a reached position is led to
  pub some_lead : {i j : ℕ} → Reached ws (Allowed m) x i j → (k : ℕ) × LeadsIn m n square i j k
  some_lead {i} {j} (last s) = (j, lead_into (record { step = s; on = inl refl }))
  some_lead {i} {j} (next k s r) = (k, lead_into (record { step = s; on = inr r }))

  pub lowest_out : {i j k : ℕ} → j < count_of ws x → LowestIn m n square i j k → LowestLead ws m x i j (replace_in n i k)
  lowest_out {i} {j} {k} hj l = record {
    k = k;
    leads = lead_out hj l.leads;
    lowest = λ a h b. l.lowest a h (lead_into b);
    is = replace_in_lem numbered i k;
  }

-- what a search by the flags has found at type x
module _ {ws m flags : List ℕ} {x : ℕ} {kids : List ℕ} {n : Numbering} (v : Visited ws m flags x kids n) where
  pub next_none : Searched (BreachAt ws m (Flagged flags) x) None → CleanUpTo ws m (x + 1)
  next_none found = clean_more ws m (ForbiddenBelow ws m) v.clean
      (λ t p h e. let r = breach_as m v.policy.accepted v.spoilt.back t p h in at_none ws m (Flagged flags) found t r.0 r.1 e)

  module _ {s : Spot} (found : FirstSpot (BreachAt ws m (Flagged flags) x) s) where
    by : ℕ
    by = found.broken.0

    here : BreachAt ws m (Flagged flags) x s by
    unfolding by
    here = found.broken.1

    -- no type before has a breach by them either, so it is the first spot
    spot : FirstSpot (IsBreach ws m) s
    spot = spot_as m v.policy.accepted v.spoilt (at_first ws m (Flagged flags) before found)
      where
        before : CleanBefore ws m (Flagged flags) x
        before t p h = let r = breach_as m v.policy.accepted v.spoilt.onto t p h in v.clean t r.0 r.1

    pub star_next : {p : ℕ} → IsStar ws x → StarTakes ws m x p → TakenAt ws m x p
    star_next {p} star t =
        let takes : StarTakes ws m s.element p = rw here.here t in
        record {
          spot = s;
          first = spot;
          here = here.here;
          takes = subst (λ (c : Condition). TakesFor ws m c s p) (sym (star_only ws m (Flagged flags) x star s by here).0) takes;
        }

    pub choice_reached : IsChoice ws x → Reached ws (Allowed m) x s.i s.j
    choice_reached choice = elim (choice_only ws m (Flagged flags) x choice s by here) [
      | inl h ↦ rw here.here at h.1.reached
      | inr h ↦ rw h.1.same (rw here.here at h.1.reached)
    ]

    -- at a cycle j is i
    pub cycle_same : IsChoice ws x → s.condition ≡ Cycle → s.j ≡ s.i
    cycle_same choice k = elim (choice_only ws m (Flagged flags) x choice s by here) [
      | inl h ↦ let z : ◌≡◌ {A = ℕ} 2 3 = ap condition_number (sym h.0 ∙ k) in absurd (omega arith)
      | inr h ↦ h.1.same
    ]

    pub choice_next : {p : ℕ} → IsChoice ws x → LowestLead ws m x s.i s.j p → TakenAt ws m x p
    choice_next {p} choice l = record { spot = s; first = spot; here = here.here; takes = takes }
      where
        lead : LowestLead ws m s.element s.i s.j p
        lead = rw here.here l

        takes : TakesFor ws m s.condition s p
        takes = elim (choice_only ws m (Flagged flags) x choice s by here) [
          | inl h ↦ subst (λ (c : Condition). TakesFor ws m c s p) (sym h.0) lead
          | inr h ↦ subst (λ (c : Condition). TakesFor ws m c s p) (sym h.0) lead
        ]

-- a type that is neither a star nor a choice is passed
pub plain_next : {ws m : List ℕ} {x : ℕ} → CleanUpTo ws m x → kind_in (rule_at ws x) ≢ 3 → kind_in (rule_at ws x) ≢ 4 → CleanUpTo ws m (x + 1)
plain_next {ws} {m} {x} h c d =
    clean_more ws m (ForbiddenBelow ws m) h (λ s p b e. plain_none ws m (ForbiddenBelow ws m) x c d s p (record { breach = b; here = e }))
