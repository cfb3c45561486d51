-- What is no policy is refused, and a policy gets its verdict. Assumes nothing.
use Rattle.std.proofs.Common.{refl}
use Rattle.std.proofs.lemmas.Result.{err_from_is_err_and}
use Rattle.policy.proofs.Policies.{policy_none, policy_fits}
use Rattle.verdict.specs.Answers.{refused, judged}
use Rattle.verdict.proofs.judge_policy.Goals as goal

pub returns-in_err-check_policy : goal.returns-in_err-check_policy
returns-in_err-check_policy c = let p = err_from_is_err_and c.from_residual.result c.from_residual.ensures.1 in
    rw (p.1, p.2) (refused (policy_none c.in_err-check_policy.field-0.0 c.in_err-check_policy.ensures.answer) refl)

pub first_breach-requires : goal.first_breach-requires
first_breach-requires c = let told = c.in_ok-check_policy.ensures in ((policy_fits refl told.answer).0, told.up refl)

pub returns : goal.returns
returns c = judged (policy_fits refl c.in_ok-check_policy.ensures.answer).0 c.first_breach.ensures refl
