-- The loop has put the children of the operands passed. Assumes nothing.
use Rattle.write.proofs.Puts.{putting_more}
use Rattle.write.proofs.row.put_children.Goals as goal

pub loop-i-preserved : goal.loop-i-preserved
loop-i-preserved c = putting_more c.loop-i.invariant c.loop-i-test.true c.child.result c.put.new.out c.skip-place.result.at
    c.skip-place.result.free c.child.ensures.is c.put.ensures c.skip-place.ensures
