-- The items passed were read, and one more. Assumes nothing.
use Rattle.stream.proofs.Advancing.{advances_more}
use Rattle.stream.proofs.read_items.Goals as goal

pub loop-item-preserved : goal.loop-item-preserved
loop-item-preserved g c = advances_more _ _ _ c.loop-item.invariant c.next.ensures

pub returns-in_err-item-clause-read : goal.returns-in_err-item-clause-read
returns-in_err-item-clause-read g c = advances_more _ _ _ c.loop-item.invariant c.next.ensures
