-- The old table and its marks come first, then the new table, then the list. Assumes nothing.
use Rattle.std.proofs.Common.{refl, arith}
use Rattle.std.proofs.lemmas.Result.{err_from_is_err_and}
use Rattle.table.proofs.Facts.{facts}
use Rattle.table.proofs.Answers.{refusal_not}
use Rattle.policy.proofs.Policies.{policy_none, policy_fits, table_accepted}
use Rattle.carry.specs.Answers.{no_policy}
use Rattle.carry.specs.Steps.Using.{stays}
use Rattle.carry.proofs.Moves.{table_refused}
use Rattle.carry.proofs.check_move.Goals as goal

pub returns-in_err-check_policy : goal.returns-in_err-check_policy
returns-in_err-check_policy c = let p = err_from_is_err_and c.from_residual.result c.from_residual.ensures.1 in
    let r = c.in_err-check_policy.field-0.0 in
    rw (p.1, p.2) (stays (refusal_not r) (no_policy (policy_none r c.in_err-check_policy.ensures.answer)))

pub check_numbers-requires : goal.check_numbers-requires
check_numbers-requires c = omega (arith, c.types-in-Ok.ensures.is, (facts (table_accepted refl c.in-Ok.ensures).0).few)

pub returns-in-Err : goal.returns-in-Err
returns-in-Err c = table_refused (policy_fits refl c.in_ok-check_policy.ensures.answer).0 c.in-Err.refusal c.of_new.result c.in-Err.ensures c.of_new.ensures
