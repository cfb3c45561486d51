-- A refusal is the table's own. Assumes nothing.
use Rattle.std.proofs.lemmas.Result.{err_from_is_err_and}
use Rattle.table.proofs.Answers.{refusal_some}
use Rattle.dtd.proofs.Lasting.{table_refused}
use Rattle.dtd.proofs.finish.answer.Goals as goal

pub returns-in_err-v : goal.returns-in_err-v
returns-in_err-v c = let p = err_from_is_err_and c.from_residual.result c.from_residual.ensures.1 in
    rw (p.1, p.2) (table_refused c.in_err-v.ensures (refusal_some c.in_err-v.field-0.0))
