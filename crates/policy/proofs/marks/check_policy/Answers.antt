-- The table comes first, then the marks. Assumes nothing.
use Rattle.std.proofs.Common.{refl, arith}
use Rattle.std.proofs.lemmas.Result.{err_from_is_err_and}
use Rattle.table.proofs.Answers.{refusal_not}
use Rattle.policy.proofs.Policies.{misfit_refused, marks_fit, table_accepted}
use Rattle.policy.specs.Marks.{table, marks}
use Rattle.policy.specs.Steps.Checking.{refused, fits}
use Rattle.policy.proofs.marks.check_policy.Goals as goal

pub returns-in_err-v : goal.returns-in_err-v
returns-in_err-v c = let p = err_from_is_err_and c.from_residual.result c.from_residual.ensures.1 in
    rw (p.1, p.2) (record { answer = refused (table (refusal_not c.in_err-v.field-0.0) c.in_err-v.ensures.answer); up = c.in_err-v.ensures.up })

pub returns-in_err-check_marks : goal.returns-in_err-check_marks
returns-in_err-check_marks c = let p = err_from_is_err_and c.from_residual-in_err-check_marks.result c.from_residual-in_err-check_marks.ensures.1 in
    let t = table_accepted refl c.in_ok-v.ensures.answer in
    rw (p.1, p.2) (record {
      answer = refused (marks t.0 (rw t.1 at (misfit_refused c.in_err-check_marks.field-0.0 (c.in_err-check_marks.ensures 10))));
      up = λ e. c.in_ok-v.ensures.up refl;
    })

pub returns : goal.returns
returns c = let t = table_accepted refl c.in_ok-v.ensures.answer in
    record {
      answer = fits (record { accepted = t.0; fit = rw t.1 at (marks_fit (omega arith) refl (c.in_ok-check_marks.ensures 10)) }) refl t.1;
      up = λ e. c.in_ok-v.ensures.up refl;
    }
