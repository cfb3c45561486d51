-- The loop has marked the kids passed. Assumes nothing.
use Rattle.std.proofs.Common.{arith}
use Rattle.table.proofs.Marks.{add_skip, add_one_more, add_room}
use Rattle.table.proofs.below.add_kids.Goals as goal
use Rattle.table.proofs.below.add_kids.Goals.{then-marks-child-ne1, else-marks-child-ne1}

pub bounds-order-n : goal.bounds-order-n
bounds-order-n c = add_room c.loop-kid.invariant c.loop-kid-test.true c.from-child.ensures (omega arith) c.if-marks-child-ne1.true

pub overflow_add-n : goal.overflow_add-n
overflow_add-n c = omega (arith, add_room c.loop-kid.invariant c.loop-kid-test.true c.from-child.ensures (omega arith) c.if-marks-child-ne1.true)

pub loop-kid-preserved : goal.loop-kid-preserved
loop-kid-preserved c = elim c.if-marks-child-ne1.branch [
  | then-marks-child-ne1 w ↦ rw (w.marks-is, w.order-is, w.n-is) (add_one_more c.loop-kid.invariant c.loop-kid-test.true c.from-child.ensures (omega arith) w.if-marks-child-ne1.true)
  | else-marks-child-ne1 w ↦ rw (w.marks-is, w.order-is, w.n-is) (add_skip c.loop-kid.invariant c.loop-kid-test.true c.from-child.ensures (omega arith) w.if-marks-child-ne1.false)
]
