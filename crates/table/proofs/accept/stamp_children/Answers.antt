-- The loop keeps what the children passed are, and their stamps. Assumes nothing.
use Rattle.std.proofs.Common.{arith}
use Rattle.table.proofs.Stamps.{stamp_start, stamp_more, stamp_all, stamp_room}
use Rattle.table.proofs.accept.stamp_children.Goals as goal

pub loop-kid-init : goal.loop-kid-init
loop-kid-init c = stamp_start c.requires.3

pub overflow_add-counts : goal.overflow_add-counts
overflow_add-counts c = omega (arith, stamp_room c.loop-kid.invariant c.from-child.result (omega arith))

pub loop-kid-preserved : goal.loop-kid-preserved
loop-kid-preserved c = stamp_more c.loop-kid.invariant c.loop-kid-test.true c.requires.1 c.from-child.result (omega arith) c.if-e-child.false c.if-stamps-child.false

pub returns : goal.returns
returns c = λ e. stamp_all c.loop-kid.invariant c.loop-kid-test.false c.requires.2
