-- A comment leaves what was seen; a declaration is then seen.
use Rattle.std.proofs.Common.{Ok, Err}
use Rattle.scan.proofs.Readings.{handed_on}
use Rattle.scan.proofs.Declared.{declared_told, remarked_told}
use Rattle.scan.proofs.item.open_item.Goals as goal

pub returns-in_err-comment : goal.returns-in_err-comment
returns-in_err-comment c = rw (handed_on c.from_residual.result c.from_residual.ensures.1)
    (remarked_told c.args.s.now c.args.at c.if-is.ensures (Err _) c.in_err-comment.ensures)

pub returns-then-is : goal.returns-then-is
returns-then-is c = remarked_told c.args.s.now c.args.at c.if-is.ensures (Ok _) c.in_ok-comment.ensures

pub returns-in_err-element : goal.returns-in_err-element
returns-in_err-element c = rw (handed_on c.from_residual-in_err-element.result c.from_residual-in_err-element.ensures.1)
    (declared_told c.args.s.now c.args.at c.requires c.if-is.ensures (Err _) c.in_err-element.ensures)

pub returns : goal.returns
returns c = declared_told c.args.s.now c.args.at c.requires c.if-is.ensures (Ok _) c.in_ok-element.ensures
