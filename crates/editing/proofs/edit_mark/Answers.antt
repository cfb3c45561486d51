-- What is no edit is refused; else the mark is written, the entries are renewed, and the verdict goes by them. Assumes nothing.
use Rattle.std.proofs.Common.{refl, arith}
use Rattle.std.proofs.lemmas.Result.{err_from_is_err_and}
use Rattle.table.proofs.Answers.{refusal_not}
use Rattle.table.proofs.Facts.{facts}
use Rattle.editing.specs.Answer.{refused, edited}
use Rattle.editing.proofs.Answered.{checked_refused, checked_fits}
use Rattle.editing.proofs.edit_mark.Goals as goal

pub returns-in_err-check_edit : goal.returns-in_err-check_edit
returns-in_err-check_edit c = let p = err_from_is_err_and c.from_residual.result c.from_residual.ensures.1 in
    rw (p.1, p.2) (refused (checked_refused (refusal_not c.in_err-check_edit.field-0.0) c.in_err-check_edit.ensures.answer) refl refl refl)

pub returns : goal.returns
returns c = let edit = checked_fits refl c.in_ok-check_edit.ensures.answer in
    edited edit refl c.renew_entries.ensures
    (c.breach_by.ensures.read (λ e. omega (arith, edit.room, c.renew_entries.ensures.size, (facts edit.policy.accepted).some))) refl
