-- Text begins with a '#', and else it is a group.
use Rattle.std.proofs.Common.{[], add-one}
use Rattle.scan.proofs.Declared.{opened_text, opened_group}
use Rattle.scan.proofs.item.opened.Goals as goal

pub returns-then-is : goal.returns-then-is
returns-then-is c = opened_text c.requires (rw (add-one c.args.at) at c.blanks-b.ensures) c.if-is.ensures c.text.ensures

pub returns : goal.returns
returns c = opened_group c.requires (rw (add-one c.args.at) at c.blanks-b.ensures) c.if-is.ensures (c.group.ensures [])
