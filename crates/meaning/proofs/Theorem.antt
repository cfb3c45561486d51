-- Theorem 1 of document 000, for a table of format 1: a policy is consistent exactly if the three conditions hold; and, edit by edit, what can be imitated
-- is exactly what is granted. In format 2 that holds of every edit but those that replace an element by one of its own kind. Such an edit is
-- imitated where it is granted, if it changes anything at all; and it may be imitated where it is not granted, by edits inside the element. All hold
-- for every reading of "the same tree" between equal and isomorphic. Assumes nothing.
use Prim.Native.Nat.{ℕ}
use mathlib.Core.Path.{◌≡◌, refl}
use mathlib.Core.Logic.{◌↔◌, ◌≢◌, ◌⊎◌, inl, inr, ⊎_map}
use mathlib.Core.List.{List}
use native.Mathlib.Omega.{arith}
use Rattle.table.specs.Plus.{last, next}
use Rattle.table.specs.Words.{format_of}
use Rattle.table.specs.Privilege.{Edit, Offers, privilege_of}
use Rattle.table.specs.Check.{Accepted}
use Rattle.table.proofs.Privileges.{edit_some}
use Rattle.policy.specs.Marks.{Allowed, Forbidden}
use Rattle.policy.specs.Reached.{Reached}
use Rattle.policy.specs.Renewed.{Renewed, by_both, by_exchange}
use Rattle.verdict.specs.Conditions.{Clean, ThreeConditions}
use Rattle.verdict.specs.Forces.{Forces, exchange, renewal, chain, cycle}
use Rattle.verdict.proofs.Forced.{forced_below, clean_forces, forces_clean, clean_three, three_clean}
use Rattle.completion.specs.Granted.{Granted}
use Rattle.meaning.specs.Trees.{Forest, Document, Same}
use Rattle.meaning.specs.Edits.{Makes, stay}
use Rattle.meaning.specs.Consistent.{Imitates, Imitation, Consistent}
use Rattle.meaning.specs.SameKind.{SameKindEdit, Idle}
use Rattle.meaning.specs.Readings.{Reading, ConsistentInOrder}
use Rattle.meaning.proofs.Orders.{same_refl}
use Rattle.meaning.proofs.Moves.{leads_moves}
use Rattle.meaning.proofs.Conforming.{makes_offers}
use Rattle.meaning.proofs.Explained.{explains}
use Rattle.meaning.proofs.SameKind.{whether_same_kind, format_one, idle_still}
use Rattle.meaning.proofs.Imitating.{Shown, granted_shown}

pub up_to_order : Reading Same
up_to_order = record { equal = same_refl; isomorphic = λ t u s. s }

pub in_order : Reading ◌≡◌
in_order = record { equal = λ t. refl; isomorphic = λ t u e. rw e (same_refl u) }

-- where nothing is allowed, nothing is granted
unreached : {ws : List ℕ} {x i j : ℕ} → Reached ws (λ p. ⊥) x i j → ⊥
unreached (last s) = s.allowed
unreached (next k s r) = s.allowed

unrenewed : {ws : List ℕ} {x : ℕ} → Renewed ws (λ p. ⊥) x → ⊥
unrenewed (by_both b) = b.insert
unrenewed (by_exchange c a) = a

ungranted : {ws : List ℕ} {p : ℕ} → Granted ws (λ q. ⊥) p → ⊥
ungranted (inl a) = a
ungranted (inr (exchange x c b e)) = b.insert
ungranted (inr (renewal x s r w)) = unrenewed r
ungranted (inr (chain x i j s r c e)) = unreached r
ungranted (inr (cycle x i s r w)) = unreached r

-- an edit that replaces the one tree of a kind by itself is never imitated
pub idle_never : {ws : List ℕ} {R : Forest → Forest → Type 0} {S : ℕ → Type 0} {e : Edit} → Reading R → Idle ws e → ¬ Imitates ws R S e
idle_never same h i =
    let m = i.simulates in
    i.changes (rw (idle_still h m.made m.document) (same.equal i.goal))

module _ {ws : List ℕ} (ok : Accepted ws) where
  -- an edit that changes a document does more than to order it anew
  pub changes_more : {e : Edit} {t u : Forest} → ¬ SameKindEdit e → Document ws t → Makes ws e t u → t ≢ u → ¬ Same t u
  changes_more other d m c s = ungranted (explains ok other m d c (leads_moves stay s))

  -- EDIT BY EDIT, for any set of privileges
  module _ {R : Forest → Forest → Type 0} (same : Reading R) where
    -- what is imitated is granted
    pub imitates_granted : {S : ℕ → Type 0} {e : Edit} → ¬ SameKindEdit e → Imitates ws R S e → Granted ws S (privilege_of ws e)
    imitates_granted other i =
        let m = i.simulates in
        explains ok other m.made m.document (λ q. i.changes (rw q (same.equal i.goal)))
        (leads_moves m.leads (same.isomorphic m.end i.goal m.same_end))

    shown_imitates : {S : ℕ → Type 0} {e : Edit} → Shown ws S e → Imitates ws R S e
    shown_imitates h =
        let c = h.case in
        let d = c.trees in
        record {
          start = d.one;
          goal = d.other;
          simulates = record { document = d.one_conforms; made = c.made; end = d.other; leads = h.run; same_end = same.equal d.other };
          changes = λ r. d.differ (same.isomorphic d.one d.other r);
        }

    -- what is granted is imitated, or it is idle
    pub granted_imitates : {S : ℕ → Type 0} (e : Edit) → Offers ws e → Granted ws S (privilege_of ws e) → Imitates ws R S e ⊎ Idle ws e
    granted_imitates e o g = ⊎_map shown_imitates (λ h. h) (granted_shown ok e o g)

    -- so of the edits that do not replace an element by one of its own kind exactly those are granted that can be imitated
    pub granted_as : {S : ℕ → Type 0} (e : Edit) → Offers ws e → ¬ SameKindEdit e → Granted ws S (privilege_of ws e) ↔ Imitates ws R S e
    granted_as e o other = ((λ g. elim (granted_imitates e o g) [ inl i ↦ i | inr h ↦ absurd (other h.same_kind) ]), imitates_granted other)

    -- in a clean policy every forbidden edit that is imitated replaces an element by one of its own kind
    pub clean_imitates : {marks : List ℕ} → Clean ws marks → (e : Edit) → Forbidden marks (privilege_of ws e) → Imitates ws R (Allowed marks) e → SameKindEdit e
    clean_imitates c e f i = elim (whether_same_kind e) [
      | inl h ↦ h
      | inr other ↦ elim (imitates_granted other i) [
        | inl a ↦ absurd (omega (arith, a, f))
        | inr g ↦ absurd (clean_forces c (privilege_of ws e) g f)
      ]
    ]

  -- in format 1 there is no such edit
  module _ (one : format_of ws ≡ 1) where
    pub clean_as : {R : Forest → Forest → Type 0} → Reading R → {marks : List ℕ} → Clean ws marks ↔ ¬ Imitation ws R marks
    clean_as {R} same {marks} = (there, λ h. forces_clean (back h))
      where
        there : Clean ws marks → ¬ Imitation ws R marks
        there c i = format_one ws one i.edit (makes_offers i.imitates.simulates.made) (clean_imitates same c i.edit i.forbidden i.imitates)

        back : ¬ Imitation ws R marks → (p : ℕ) → Forces ws (Allowed marks) p → ¬ Forbidden marks p
        back h p f b =
            let o = edit_some ws p (forced_below f) in
            h (record { edit = o.0; forbidden = rw o.2 b; imitates = (granted_as same o.0 o.1 (format_one ws one o.0 o.1)).0 (inr (rw o.2 f)) })

    -- THEOREM 1. For every accepted table of format 1 and all marks: the three conditions hold exactly if allowed edits imitate no forbidden one
    pub theorem_1 : {marks : List ℕ} → Clean ws marks ↔ Consistent ws marks
    theorem_1 = clean_as up_to_order

    -- the same of the conditions as document 01 writes them
    pub theorem_1_written : {marks : List ℕ} → ThreeConditions ws marks ↔ Consistent ws marks
    theorem_1_written = ((λ t. theorem_1.0 (three_clean ws one t)), λ c. clean_three ws one (theorem_1.1 c))

    -- the same where the order of siblings counts
    pub theorem_1_in_order : {marks : List ℕ} → Clean ws marks ↔ ConsistentInOrder ws marks
    theorem_1_in_order = clean_as in_order

    -- THE OPERATOR T. For any set of privileges: it holds exactly the kinds of edit that edits by them imitate
    pub theorem_t : {S : ℕ → Type 0} (e : Edit) → Offers ws e → Granted ws S (privilege_of ws e) ↔ Imitates ws Same S e
    theorem_t e o = granted_as up_to_order e o (format_one ws one e o)

    pub theorem_t_in_order : {S : ℕ → Type 0} (e : Edit) → Offers ws e → Granted ws S (privilege_of ws e) ↔ Imitates ws ◌≡◌ S e
    theorem_t_in_order e o = granted_as in_order e o (format_one ws one e o)
