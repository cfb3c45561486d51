-- The '<!', then what it opens.
use Rattle.scan.proofs.Readings.{handed_on}
use Rattle.scan.proofs.Declared.{item_told, item_refused}
use Rattle.scan.proofs.item.one_item.Goals as goal

pub returns-in_err-e : goal.returns-in_err-e
returns-in_err-e c = rw (handed_on c.from_residual.result c.from_residual.ensures.1) (item_refused c.args.s.now c.args.at _ c.in_err-e.ensures)

pub returns : goal.returns
returns c = item_told c.args.s.now c.args.at _ c.in_ok-e.ensures c.open_item.result c.open_item.ensures
