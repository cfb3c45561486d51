-- The checks in their order. Assumes nothing.
use Rattle.std.proofs.Common.{refl, arith}
use Rattle.std.proofs.lemmas.Result.{err_from_is_err_and}
use Rattle.table.proofs.Answers.{refusal_not}
use Rattle.table.proofs.Facts.{facts}
use Rattle.policy.proofs.Policies.{table_accepted}
use Rattle.adding.specs.Answers.{table}
use Rattle.adding.specs.Steps.Checking.{refused}
use Rattle.adding.proofs.check_sum.Goals as goal

pub returns-in_err-v : goal.returns-in_err-v
returns-in_err-v c = let p = err_from_is_err_and c.from_residual.result c.from_residual.ensures.1 in
    rw (p.1, p.2) (refused (table (refusal_not c.in_err-v.field-0.0) c.in_err-v.ensures))

pub overflow_mul-v : goal.overflow_mul-v
overflow_mul-v c = let t = table_accepted refl c.in_ok-v.ensures in omega (arith, t.1, (facts t.0).privileges_few)
