-- The loop keeps what the children passed are, and their stamps. Assumes nothing.
use Rattle.table.proofs.Stamps.{StampedSoFar}
use Rattle.table.proofs.accept.stamp_children.Given as goal

abbrev pub invariant-loop-kid : goal.invariant-loop-kid
invariant-loop-kid l = StampedSoFar l.e l.t l.kids l.kid-index l.initial.counts l.stamps l.counts
