-- The loop has marked the kids passed. Assumes nothing.
use Rattle.table.proofs.Marks.{AddedSoFar}
use Rattle.table.proofs.below.add_kids.Given as goal

abbrev pub invariant-loop-kid : goal.invariant-loop-kid
invariant-loop-kid l = AddedSoFar l.kids l.kid-index l.initial.marks l.initial.order l.listed l.marks l.order l.n
