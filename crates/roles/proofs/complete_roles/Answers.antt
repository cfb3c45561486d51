-- What is no table, not V marks for each number, or has no room is refused; else each role is completed. Assumes nothing.
use Rattle.std.proofs.Common.{refl, arith}
use Rattle.std.proofs.lemmas.Result.{err_from_is_err_and}
use Rattle.table.proofs.Answers.{refusal_not}
use Rattle.table.proofs.Lowest.{told_yes, told_no}
use Rattle.policy.proofs.Policies.{table_accepted}
use Rattle.policy.specs.Roles.{table, length_off, short}
use Rattle.roles.specs.Answers.{refused}
use Rattle.roles.proofs.complete_roles.Goals as goal

pub returns-in_err-v : goal.returns-in_err-v
returns-in_err-v c = let p = err_from_is_err_and c.from_residual.result c.from_residual.ensures.1 in
    rw (p.1, p.2) (refused (table (refusal_not c.in_err-v.field-0.0) c.in_err-v.ensures.answer) refl refl refl)

pub returns-then-not-is_product : goal.returns-then-not-is_product
returns-then-not-is_product c =
    let t = table_accepted refl c.in_ok-v.ensures.answer in
    let off = told_no c.is_product.result c.is_product.ensures c.if-not-is_product.true in
    refused (length_off t.0 (rw t.1 at off) refl refl) refl refl refl

pub returns-then-out-marks : goal.returns-then-out-marks
returns-then-out-marks c =
    let t = table_accepted refl c.in_ok-v.ensures.answer in
    let sized = rw t.1 at (told_yes c.is_product.result c.is_product.ensures c.if-not-is_product.false) in
    refused (short t.0 sized (omega (arith, c.if-out-marks.true)) refl refl) refl refl refl
