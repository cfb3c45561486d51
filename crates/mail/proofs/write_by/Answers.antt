-- Marks that do not fit and a short result are refused; else the lines are put. Assumes nothing.
use Rattle.std.proofs.lemmas.Result.{err_from_is_err_and}
use Rattle.policy.proofs.Policies.{misfit_refused}
use Rattle.mail.proofs.Giving.{mailable, marks_off, marks_fit, short_out, all_put}
use Rattle.mail.proofs.write_by.Goals as goal

pub returns-in_err-check_marks : goal.returns-in_err-check_marks
returns-in_err-check_marks c = let p = err_from_is_err_and c.from_residual.result c.from_residual.ensures.1 in
    rw (p.1, p.2) (marks_off c.requires.accepted c.word_at.ensures.is (misfit_refused c.in_err-check_marks.field-0.0 (c.in_err-check_marks.ensures 10)))

pub size_of-size-requires : goal.size_of-size-requires
size_of-size-requires c = mailable c.requires (marks_fit c.requires.accepted c.word_at.ensures.is (c.in_ok-check_marks.ensures 10))

pub returns-then-out-size : goal.returns-then-out-size
returns-then-out-size c = let a = c.requires.accepted in
    short_out a (marks_fit a c.word_at.ensures.is (c.in_ok-check_marks.ensures 10)) c.size_of-size.ensures c.if-out-size.true

pub put_lines-requires : goal.put_lines-requires
put_lines-requires c = mailable c.requires (marks_fit c.requires.accepted c.word_at.ensures.is (c.in_ok-check_marks.ensures 10))

pub returns : goal.returns
returns c = let a = c.requires.accepted in
    all_put a (marks_fit a c.word_at.ensures.is (c.in_ok-check_marks.ensures 10)) c.size_of-size.ensures c.if-out-size.false c.put_lines.ensures
