-- The bracket and its star, or what stands in their place.
use Rattle.std.proofs.Common.{add-one, arith}
use Rattle.scan.proofs.Items.{good_end}
use Rattle.scan.proofs.Contents.{text_mixed, text_stuck}
use Rattle.scan.proofs.Declared.{text_starred, text_plain}
use Rattle.scan.proofs.item.text_end.Goals as goal

pub returns-then-is-2 : goal.returns-then-is-2
returns-then-is-2 c = text_starred c.if-is.ensures (rw (add-one c.args.at) at c.if-is-2.ensures) (omega arith)

pub returns-then-is : goal.returns-then-is
returns-then-is c = text_plain c.if-is.ensures (rw (add-one c.args.at) at c.if-is-2.ensures) (omega arith)

pub returns-then-is-3 : goal.returns-then-is-3
returns-then-is-3 c = text_mixed good_end c.if-is-3.ensures

pub returns : goal.returns
returns c = text_stuck good_end c.requires c.if-is.ensures c.if-is-3.ensures
