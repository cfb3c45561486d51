-- What the calls answer, by what a policy means. In format 1 a verdict without a breach is that the policy is consistent; a breach gives an imitation, of
-- its own privilege, by edits at its own type; a completion allows the kinds of edit that the set marks let people imitate, and is refused exactly
-- if they let people imitate one that they forbid. In format 2 edits that replace an element by one of its own kind are an exception: a breach may
-- name one that changes nothing, and a completion may leave one out that can be imitated. Assumes nothing.
use Prim.Native.Nat.{ℕ, ◌≤◌}
use mathlib.Core.Path.{◌≡◌, refl, sym, ap, ◌∙◌}
use mathlib.Core.Logic.{◌↔◌, ◌⊎◌, inl, inr, ⊎_map}
use mathlib.Core.List.{List}
use native.Mathlib.Omega.{arith}
use lib.ListN.{length, take, drop}
use lib.Seq.{take_at}
use Rattle.table.specs.Words.{format_of}
use Rattle.table.specs.Rule.{IsStar}
use Rattle.table.specs.Privilege.{privileges, SameKind, Edit, insert, delete, exchange, replace, Offers, privilege_of}
use Rattle.table.specs.Check.{Accepted}
use Rattle.table.specs.declared.check.Check.TheVariants.{Format}
use Rattle.table.proofs.Privileges.{edit_belongs, edit_below, edit_some}
use Rattle.policy.specs.Marks.{Allowed, Forbidden, Policy}
use Rattle.policy.specs.Reached.{Step, Reached}
use Rattle.policy.specs.Renewed.{Both, Renewed, by_both, by_exchange}
use Rattle.policy.proofs.Closures.{plus_map}
use Rattle.policy.proofs.Policies.{policy_not}
use Rattle.verdict.specs.Below.{ForbiddenBelow}
use Rattle.verdict.specs.Forces.{Forces, renewal, chain, cycle}
use Rattle.verdict.specs.Forces as forces
use Rattle.verdict.specs.Breaches.{no_breach, spot_of, StarBroken, at_exchange, at_below, BreachOf, IsBreach, FirstBreach, clean, broken}
use Rattle.verdict.specs.Answers.{verdict_of, JudgeAnswer, judged}
use Rattle.verdict.specs.Answers as answers
use Rattle.verdict.specs.declared.Spot.{Spot}
use Rattle.verdict.specs.declared.Answer.{Answer}
use Rattle.verdict.specs.declared.Breach.{Breach}
use Rattle.verdict.specs.declared.Condition.{Condition}
use Rattle.verdict.specs.declared.Condition.TheVariants.{None, InsertDelete, Chain, Cycle}
use Rattle.verdict.proofs.Forced.{forced_below}
use Rattle.completion.specs.Answers.{CompleteAnswer, short, none, given}
use Rattle.completion.specs.Answers as completions
use Rattle.completion.proofs.Completing.{zero_given, given_granted}
use Rattle.completion.proofs.Least.{completes_clean}
use Rattle.meaning.specs.Trees.{Forest, Same}
use Rattle.meaning.specs.Edits.{Leads, stay, go}
use Rattle.meaning.specs.Consistent.{Imitates, Imitation, Consistent}
use Rattle.meaning.specs.SameKind.{SameKindEdit, Idle, BreachIdle}
use Rattle.meaning.specs.Readings.{Reading}
use Rattle.meaning.specs.Meaning.{AllowedAt, BreachImitation, MeaningAnswer, refused, consistent, imitated}
use Rattle.meaning.proofs.SameKind.{format_one}
use Rattle.meaning.proofs.Theorem.{up_to_order, granted_imitates, granted_as, theorem_1}

-- what is forced by the edits allowed at type x, and forbidden
record ForcedAt (ws marks : List ℕ) (x p : ℕ) : Type 0 where
  forced : Forces ws (AllowedAt ws marks x) p
  forbidden : Forbidden marks p

module _ {ws marks : List ℕ} {x : ℕ} where
  reached_at : {i j : ℕ} → Reached ws (Allowed marks) x i j → Reached ws (AllowedAt ws marks x) x i j
  reached_at r = plus_map step_at r
    where
      step_at : (i j : ℕ) → Step ws (Allowed marks) x i j → Step ws (AllowedAt ws marks x) x i j
      step_at i j s = record { can = s.can; allowed = record { allowed = s.allowed; belongs = edit_belongs ws (replace x i j) s.can } }

  both_at : IsStar ws x → Both ws (Allowed marks) x → Both ws (AllowedAt ws marks x) x
  both_at s b = record {
    insert = record { allowed = b.insert; belongs = edit_belongs ws (insert x) s };
    delete = record { allowed = b.delete; belongs = edit_belongs ws (delete x) s };
  }

  renewed_at : IsStar ws x → Renewed ws (Allowed marks) x → Renewed ws (AllowedAt ws marks x) x
  renewed_at s (by_both b) = by_both (both_at s b)
  renewed_at s (by_exchange c a) = by_exchange c (record { allowed = a; belongs = edit_belongs ws (exchange x) c })

  star_forced : {p : ℕ} → IsStar ws x → StarBroken ws marks (ForbiddenBelow ws marks) x p → ForcedAt ws marks x p
  star_forced s (at_exchange b e) = record { forced = forces.exchange x b.can (both_at s b.both) e; forbidden = rw e b.forbidden }
  star_forced s (at_below n r w) = record { forced = renewal x s (renewed_at s r) w.below; forbidden = w.forbidden }

-- a privilege that breaks a condition at a spot is such a one
breach_forced : (ws marks : List ℕ) (c : Condition) (s : Spot) (p : ℕ) → BreachOf ws marks (ForbiddenBelow ws marks) c s p → ForcedAt ws marks s.element p
breach_forced ws marks None s p b = absurd b
breach_forced ws marks InsertDelete s p b = star_forced b.star b.broken
breach_forced ws marks Chain s p b =
    record { forced = chain s.element s.i s.j b.choice (reached_at b.reached) b.can b.is; forbidden = b.forbidden }
breach_forced ws marks Cycle s p b =
    record { forced = cycle s.element s.i b.choice (reached_at b.reached) b.below.below; forbidden = b.below.forbidden }

-- A BREACH GIVES ITS IMITATION: a document, a forbidden edit of it, which has the breach's privilege, and a run of allowed edits at the breach's type that
-- ends in the same; but for a forbidden edit that replaces the one tree of a kind by itself
pub breach_imitation : {ws marks : List ℕ} {b : Breach} {R : Forest → Forest → Type 0} → Accepted ws → Reading R → FirstBreach ws marks b
    → BreachImitation ws R marks b ⊎ BreachIdle ws marks b
breach_imitation {ws} {marks} {b} ok same f =
    let h = breach_forced ws marks b.condition (spot_of b) b.privilege f.breach in
    let o = edit_some ws b.privilege (forced_below h.forced) in
    ⊎_map (λ i. record { edit = o.0; is = o.2; forbidden = h.forbidden; imitates = i })
    (λ i. record { edit = o.0; offers = o.1; is = o.2; forbidden = h.forbidden; idle = i })
    (granted_imitates ok same o.0 o.1 (inr (rw o.2 h.forced)))

-- which there is none of in format 1
pub breach_imitated : {ws marks : List ℕ} {b : Breach} {R : Forest → Forest → Type 0} → Accepted ws → format_of ws ≡ 1 → Reading R → FirstBreach ws marks b
    → BreachImitation ws R marks b
breach_imitated {ws} ok one same f = elim (breach_imitation ok same f) [
  | inl i ↦ i
  | inr h ↦ absurd (format_one ws one h.edit h.offers h.idle.same_kind)
]

leads_more : {ws : List ℕ} {S T : ℕ → Type 0} {t u : Forest} → ((p : ℕ) → S p → T p) → Leads ws S t u → Leads ws T t u
leads_more h stay = stay
leads_more {ws} h (go e a m l) = go e (h (privilege_of ws e) a) m (leads_more h l)

-- a breach's imitation is an imitation
pub breach_imitates : {ws marks : List ℕ} {b : Breach} {R : Forest → Forest → Type 0} → BreachImitation ws R marks b → Imitation ws R marks
breach_imitates i =
    let m = i.imitates.simulates in
    record {
      edit = i.edit;
      forbidden = rw i.is i.forbidden;
      imitates = record {
        start = i.imitates.start;
        goal = i.imitates.goal;
        simulates = record { document = m.document; made = m.made; end = m.end; leads = leads_more (λ p a. a.allowed) m.leads; same_end = m.same_end };
        changes = i.imitates.changes;
      };
    }

-- a table that is not of format 2 is of format 1
not_two : {ws : List ℕ} → ¬ SameKind ws → Accepted ws → format_of ws ≡ 1
not_two n ok = elim (ok.passes Format 0 (omega arith)).format [ inl one ↦ one | inr two ↦ absurd (n two) ]

-- THE VERDICT RESTATED, but in format 2: what judging answers and what the policy means say the same
pub judged_meaning : {ws marks : List ℕ} {a : Answer} → ¬ SameKind ws → JudgeAnswer ws marks a ↔ MeaningAnswer ws marks a
judged_meaning {ws} {marks} {a} n = (there, back)
  where
    there : JudgeAnswer ws marks a → MeaningAnswer ws marks a
    there (answers.refused r e) = refused r e
    there (judged p (clean c q) e) = consistent p ((theorem_1 p.accepted (not_two n p.accepted)).0 c) (e ∙ ap verdict_of q)
    there (judged p (broken f) e) = imitated p f (breach_imitated p.accepted (not_two n p.accepted) up_to_order f) e

    back : MeaningAnswer ws marks a → JudgeAnswer ws marks a
    back (refused r e) = answers.refused r e
    back (consistent p c e) = judged p (clean ((theorem_1 p.accepted (not_two n p.accepted)).1 c) refl) e
    back (imitated p f i e) = judged p (broken f) e

-- so of a policy no breach is answered exactly if it is consistent
pub judged_consistent : {ws marks : List ℕ} {a : Answer} → format_of ws ≡ 1 → Policy ws marks → JudgeAnswer ws marks a → (a ≡ verdict_of no_breach) ↔ Consistent ws marks
judged_consistent {ws} {marks} {a} one p j = (there j, back j)
  where
    there : JudgeAnswer ws marks a → a ≡ verdict_of no_breach → Consistent ws marks
    there (answers.refused n e) z = absurd (policy_not p n)
    there (judged q (clean c l) e) z = (theorem_1 p.accepted one).0 c
    there (judged q (broken f) e) z =
        let h = f.breach in
        let none : IsBreach ws marks (spot_of no_breach) 0 = rw (ap (λ (r : Answer). r.breach) (sym e ∙ z)) at h in
        absurd none

    back : JudgeAnswer ws marks a → Consistent ws marks → a ≡ verdict_of no_breach
    back (answers.refused n e) c = absurd (policy_not p n)
    back (judged q (clean d l) e) c = e ∙ ap verdict_of l
    back (judged q (broken f) e) c = absurd (c (breach_imitates (breach_imitated p.accepted one up_to_order f)))

-- A COMPLETION, in the coordinators' words: it allows a kind of edit exactly if somewhere people can do such an edit anyway, by edits that were set to
-- allowed. Elsewhere it may let them do more (completion_adds, in Readings), as every policy must that decides the blanks and passes. Of an edit that
-- replaces an element by one of its own kind: what it allows people can do anyway, or it is idle; what they can do anyway it may not allow.
module _ {ws marks out after : List ℕ} {a : Answer} (c : CompleteAnswer ws marks out a after) (z : a.number ≡ 0) where
  pub completed_imitated : (e : Edit) → Offers ws e → Allowed after (privilege_of ws e) → Imitates ws Same (Allowed marks) e ⊎ Idle ws e
  completed_imitated e o h =
      let g = zero_given c z in
      granted_imitates g.policy.accepted up_to_order e o ((given_granted g (privilege_of ws e) (edit_below ws e o)).0 h)

  pub completed_anyway : (e : Edit) → Offers ws e → ¬ SameKindEdit e → Allowed after (privilege_of ws e) ↔ Imitates ws Same (Allowed marks) e
  completed_anyway e o other =
      let g = zero_given c z in
      let l = given_granted g (privilege_of ws e) (edit_below ws e o) in
      let t = granted_as g.policy.accepted up_to_order e o other in
      ((λ h. t.0 (l.0 h)), λ i. l.1 (t.1 i))

  module _ (one : format_of ws ≡ 1) where
    pub completed_exactly : (e : Edit) → Offers ws e → Allowed after (privilege_of ws e) ↔ Imitates ws Same (Allowed marks) e
    completed_exactly e o = completed_anyway e o (format_one ws one e o)

    -- what it gives is consistent
    pub completed_consistent : Consistent ws (take (privileges ws) after)
    completed_consistent =
        let g = zero_given c z in
        let whole = g.least.completes in
        rw (g.is, take_at g.front (drop (privileges ws) out) (privileges ws) whole.size) ((theorem_1 g.policy.accepted one).0 whole.clean)

-- and it is refused with 16, where there is room for it, exactly if the marks that were set are not consistent
pub refused_exactly : {ws marks out after : List ℕ} {a : Answer} → format_of ws ≡ 1 → Policy ws marks → privileges ws ≤ length out → CompleteAnswer ws marks out a after
    → (a.number ≡ 16) ↔ ¬ Consistent ws marks
refused_exactly {ws} {marks} {out} {after} {a} one p room c = (there c, back c)
  where
    there : CompleteAnswer ws marks out a after → a.number ≡ 16 → ¬ Consistent ws marks
    there (completions.refused n e s) z h = absurd (policy_not p n)
    there (short q l e s) z h = absurd (omega arith)
    there (none q l n b e s) z h = h (breach_imitates (breach_imitated p.accepted one up_to_order b))
    there (given q l d e s) z h = absurd (omega (arith, ap (λ (r : Answer). r.number) e))

    back : CompleteAnswer ws marks out a after → ¬ Consistent ws marks → a.number ≡ 16
    back (completions.refused n e s) h = absurd (policy_not p n)
    back (short q l e s) h = absurd (omega arith)
    back (none q l n b e s) h = ap (λ (r : Answer). r.number) e
    back (given q l d e s) h = absurd (h ((theorem_1 p.accepted one).0 (completes_clean d.completes)))
