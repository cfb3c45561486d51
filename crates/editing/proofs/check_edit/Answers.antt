-- The policy comes first, then the privilege, the mark and the room. Assumes nothing.
use Rattle.std.proofs.lemmas.Result.{err_from_is_err_and}
use Rattle.table.proofs.Answers.{refusal_not}
use Rattle.policy.proofs.Policies.{policy_none}
use Rattle.editing.specs.Answer.{no_policy}
use Rattle.editing.specs.Steps.Checking.{refused}
use Rattle.editing.proofs.check_edit.Goals as goal

pub returns-in_err-v : goal.returns-in_err-v
returns-in_err-v c = let p = err_from_is_err_and c.from_residual.result c.from_residual.ensures.1 in
    let r = c.in_err-v.field-0.0 in
    rw (p.1, p.2) (record { answer = refused (no_policy (policy_none r c.in_err-v.ensures.answer)); up = λ e. absurd (refusal_not r e) })
