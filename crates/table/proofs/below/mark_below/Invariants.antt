-- The loop passes the types listed, one after another. Assumes nothing.
use Rattle.std.proofs.Common.{◌-◌}
use Rattle.table.proofs.Marks.{Marking}
use Rattle.table.proofs.below.mark_below.Given as goal

abbrev pub invariant-loop-head : goal.invariant-loop-head
invariant-loop-head l = Marking l.words l.from l.head l.marks l.order l.n

abbrev pub decreases-loop-head : goal.decreases-loop-head
decreases-loop-head l = 256 - l.head
