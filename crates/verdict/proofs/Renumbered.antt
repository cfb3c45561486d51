-- The order of the types never matters: an accepted table and the same one with its types renumbered are clean for the same policies, their
-- marks carried along. What is forced in the one is forced in the other. Assumes nothing.
use Rattle.std.proofs.Common.{ℕ, ◌≡◌, ap, ◌∙◌, List, arith}
use Rattle.table.specs.Words.{types}
use Rattle.table.specs.Rule.{IsStar}
use Rattle.table.specs.Privilege as table
use Rattle.table.specs.Privilege.{Edit, insert, delete, replace, type_of, Offers, privilege_of}
use Rattle.table.specs.Check.{Accepted}
use Rattle.table.specs.Steps.Childed.{Childed}
use Rattle.table.specs.Renumbered.{Permutes, Renumbered, moved, renumber}
use Rattle.table.proofs.Privileges.{belongs_one, edit_belongs, edit_some, edit_one}
use Rattle.table.proofs.Facts.{facts, accepted_childed}
use Rattle.table.proofs.Renumbered.{below_there, renumbered_back, moved_type, position_there, kind_there, offers_there}
use Rattle.table.proofs.Renumber.{renumbered}
use Rattle.policy.specs.Marks.{Allowed, Forbidden, Policy}
use Rattle.verdict.specs.Below.{PrivilegeBelow}
use Rattle.policy.specs.Reached.{Step}
use Rattle.policy.specs.Renewed.{Both, Renewed, by_both, by_exchange}
use Rattle.verdict.specs.Conditions.{Clean}
use Rattle.verdict.specs.Forces.{Forces, exchange, renewal, chain, cycle}
use Rattle.verdict.specs.Carried.{Carried}
use Rattle.policy.proofs.Closures.{plus_map}
use Rattle.verdict.proofs.Forced.{forced_below, clean_forces, forces_clean}
use Rattle.verdict.proofs.Carried.{carried_back, carried_marks}
use Rattle.policy.proofs.Reaches.{reached_from}

module _ {f g : ℕ → ℕ} {ws vs marks carried : List ℕ} (r : Renumbered f g ws vs) (a : Accepted ws) (b : Accepted vs)
    (m : Carried f ws marks vs carried) where
  c : Childed ws
  c = accepted_childed a

  d : Childed vs
  d = accepted_childed b

  privilege_there : (e : Edit) → Offers ws e → {y : ℕ} → PrivilegeBelow ws (privilege_of ws e) y → PrivilegeBelow vs (privilege_of vs (moved f e)) (f y)
  privilege_there e o w =
      let type : type_of e ≡ w.type = belongs_one (edit_belongs ws e o) w.belongs in
      record {
        type = f w.type;
        belongs = rw (moved_type f e ∙ ap f type) at (edit_belongs vs (moved f e) (offers_there r c d e o));
        below = below_there r w.below;
      }

  step_there : {x : ℕ} (i j : ℕ) → Step ws (Allowed marks) x i j → Step vs (Allowed carried) (f x) i j
  step_there {x} i j s = record { can = offers_there r c d (replace x i j) s.can; allowed = m.keeps (replace x i j) s.can ∙ s.allowed }

  both_there : {x : ℕ} → IsStar ws x → Both ws (Allowed marks) x → Both vs (Allowed carried) (f x)
  both_there {x} s h = record { insert = m.keeps (insert x) s ∙ h.insert; delete = m.keeps (delete x) s ∙ h.delete }

  renewed_there : {x : ℕ} → IsStar ws x → Renewed ws (Allowed marks) x → Renewed vs (Allowed carried) (f x)
  renewed_there s (by_both h) = by_both (both_there s h)
  renewed_there {x} s (by_exchange n h) = by_exchange (offers_there r c d (table.exchange x) n) (m.keeps (table.exchange x) n ∙ h)

  -- a forced privilege is that of an edit, and the same edit's is forced afterwards
  forces_there : (e : Edit) → Offers ws e → Forces ws (Allowed marks) (privilege_of ws e) → Forces vs (Allowed carried) (privilege_of vs (moved f e))
  forces_there e o (exchange x n h q) =
      let same : e ≡ table.exchange x = edit_one ws e (table.exchange x) o n q in
      exchange (f x) (offers_there r c d (table.exchange x) n) (both_there n.star h) (ap (λ (h : Edit). privilege_of vs (moved f h)) same)
  forces_there e o (renewal x s n w) =
      renewal (f x) (kind_there r c d s) (renewed_there s n)
      (rw (position_there r c d 0 s.type (omega (arith, (facts a).star_one x s))) (privilege_there e o w))
  forces_there e o (chain x i j s t n q) =
      let same : e ≡ replace x i j = edit_one ws e (replace x i j) o n q in
      chain (f x) i j (kind_there r c d s) (plus_map step_there t) (offers_there r c d (replace x i j) n) (ap (λ (h : Edit). privilege_of vs (moved f h)) same)
  forces_there e o (cycle x i s t w) =
      cycle (f x) i (kind_there r c d s) (plus_map step_there t) (rw (position_there r c d i s.type (reached_from t)) (privilege_there e o w))

  clean_back : Clean vs carried → Clean ws marks
  clean_back q = forces_clean (λ p w h. none p w h (edit_some ws p (forced_below w)))
    where
      none : (p : ℕ) → Forces ws (Allowed marks) p → Forbidden marks p → (e : Edit) × Offers ws e × (privilege_of ws e ≡ p) → ⊥
      none p w h (e, o, z) = clean_forces q (privilege_of vs (moved f e)) (forces_there e o (rw z w)) (m.keeps e o ∙ rw z h)

pub renumbered_clean : {f g : ℕ → ℕ} {ws vs marks carried : List ℕ} → Renumbered f g ws vs → Accepted ws → Accepted vs → Carried f ws marks vs carried
    → (Clean ws marks → Clean vs carried) × (Clean vs carried → Clean ws marks)
renumbered_clean r a b m = (clean_back (renumbered_back r (accepted_childed a)) b a (carried_back r a b m), clean_back r a b m)

-- every policy stays what it is in whatever order its types are numbered
pub any_order : {f g : ℕ → ℕ} {ws marks : List ℕ} → Policy ws marks → Permutes (types ws) f g
    → (carried : List ℕ) × Policy (renumber f g ws) carried × Carried f ws marks (renumber f g ws) carried
    × (Clean ws marks → Clean (renumber f g ws) carried) × (Clean (renumber f g ws) carried → Clean ws marks)
any_order p q =
    let made = carried_marks p q in
    let same = renumbered_clean (renumbered (accepted_childed p.accepted) q) p.accepted made.1.accepted made.2 in
    (made.0, made.1, made.2, same.0, same.1)
