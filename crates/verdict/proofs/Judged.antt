-- Judging a policy has one answer. Assumes nothing.
use Rattle.std.proofs.Common.{◌≡◌, sym, ap, ◌∙◌, List, ℕ}
use Rattle.verdict.specs.Answers.{refusal, verdict_of, JudgeAnswer, refused, judged}
use Rattle.verdict.specs.declared.Answer.{Answer}
use Rattle.policy.proofs.Policies.{refused_one, policy_not}
use Rattle.verdict.proofs.Firsts.{verdict_one}

pub refusal_one : {n m p q : ℕ} → (n ≡ m) × (p ≡ q) → refusal n p ≡ refusal m q
refusal_one e = let a = e.0 in let b = e.1 in cc

pub judge_one : {ws marks : List ℕ} {a b : Answer} → JudgeAnswer ws marks a → JudgeAnswer ws marks b → a ≡ b
judge_one (refused n e) (refused m f) = e ∙ refusal_one (refused_one n m) ∙ sym f
judge_one (refused n e) (judged p v f) = absurd (policy_not p n)
judge_one (judged p v e) (refused m f) = absurd (policy_not p m)
judge_one {ws} {marks} (judged p v e) (judged q w f) = e ∙ ap verdict_of (verdict_one ws marks v w) ∙ sym f
