-- The record, the children of the operands, and the type made inside. Assumes nothing.
use Rattle.std.proofs.Common.{drop}
use Rattle.write.proofs.Puts.{row_wrote}
use Rattle.write.proofs.row.write_row.Goals as goal

pub returns-then-due : goal.returns-then-due
returns-then-due c = let form = c.args.form in
    let from = c.args.from in
    rw c.if-due.true
    (row_wrote form.kind form.operands form.extra from.free (drop from.at c.args.code.now)
    c.put_record.ensures c.put_children.ensures c.put_last.ensures c.requires.1.extra_few)
