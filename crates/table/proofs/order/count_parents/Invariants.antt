-- The loop has counted the entries passed. Assumes nothing.
use Rattle.table.proofs.Entries.{CountedSoFar}
use Rattle.table.proofs.order.count_parents.Given as goal

abbrev pub invariant-loop-child : goal.invariant-loop-child
invariant-loop-child l = CountedSoFar l.list l.child-index l.counts
