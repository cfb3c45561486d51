-- Mending has one answer, and what it gives is accepted as a proposed mend with the same count. Assumes nothing.
use Rattle.std.proofs.Common.{ℕ, ◌≤◌, ◌≡◌, refl, sym, ap, ◌∙◌, inl, inr, List, ◌++◌, arith, get_or, drop}
use Rattle.table.specs.Privilege.{privileges}
use Rattle.policy.specs.Marks.{Fit, Policy}
use Rattle.verdict.specs.Answers as answers
use Rattle.verdict.specs.declared.Answer.{Answer}
use Rattle.policy.proofs.Policies.{refused_one, policy_not}
use Rattle.verdict.proofs.Judged.{refusal_one}
use Rattle.proposing.proofs.Answered.{propose_one}
use Rattle.mending.specs.Mends.{Mends}
use Rattle.proposing.specs.Proposals.{Kept}
use Rattle.mending.specs.Answers.{MendAnswer}
use Rattle.proposing.specs.Answers.{ProposeAnswer, accepted}
use Rattle.mending.proofs.Mended.{mends_one, mends_clean, mends_lowered, mends_count}

-- one outcome of mending
pub mend_one : {ws marks out x y : List ℕ} {a b : Answer} → MendAnswer ws marks out a x → MendAnswer ws marks out b y → (a ≡ b) × (x ≡ y)
mend_one (MendAnswer.refused n e f) (MendAnswer.refused m g h) = (e ∙ refusal_one (refused_one n m) ∙ sym g, f ∙ sym h)
mend_one (MendAnswer.refused n e f) (MendAnswer.short p l g h) = absurd (policy_not p n)
mend_one (MendAnswer.refused n e f) (MendAnswer.mended p l r g h) = absurd (policy_not p n)
mend_one (MendAnswer.short p l e f) (MendAnswer.refused m g h) = absurd (policy_not p m)
mend_one (MendAnswer.short p l e f) (MendAnswer.short q k g h) = (e ∙ sym g, f ∙ sym h)
mend_one (MendAnswer.short p l e f) (MendAnswer.mended q k r g h) = absurd (omega arith)
mend_one (MendAnswer.mended p l r e f) (MendAnswer.refused m g h) = absurd (policy_not p m)
mend_one (MendAnswer.mended p l r e f) (MendAnswer.short q k g h) = absurd (omega arith)
mend_one {ws} {marks} {out} (MendAnswer.mended p l r e f) (MendAnswer.mended q k s g h) =
    let o = mends_one r s in
    (e ∙ ap answers.done o.1 ∙ sym g, f ∙ ap (λ (n : List ℕ). n ++ drop (privileges ws) out) o.0 ∙ sym h)

-- what mending gives is a policy, and is accepted as a proposed mend with the same count
kept_legal : (m n : List ℕ) (p : ℕ) → Kept m n p → get_or m p 0 ≤ 2 → get_or n p 0 ≤ 2
kept_legal m n p (inl e) h = omega arith
kept_legal m n p (inr e) h = omega (arith, e.1)

pub mends_accepted : {ws marks n : List ℕ} {count : ℕ} {a : Answer} → Policy ws marks → Mends ws marks n count → ProposeAnswer ws marks n a → a ≡ answers.done count
mends_accepted {ws} {marks} {n} {count} pol r h =
    let l = mends_lowered r in
    let f : Fit (privileges ws) n = record { size = l.size ∙ pol.fit.size; legal = λ p k. kept_legal marks n p (l.each p) (pol.fit.legal p k) } in
    propose_one h (accepted pol f (λ p k. l.each p) (mends_clean r) (mends_count r) refl)
