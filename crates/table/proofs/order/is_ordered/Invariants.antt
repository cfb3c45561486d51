-- The loop passes the types taken, one after another, from the last place down. Assumes nothing.
use Rattle.table.specs.Steps.Counts.{Filling}
use Rattle.table.proofs.order.is_ordered.Given as goal

abbrev pub invariant-loop-free : goal.invariant-loop-free
invariant-loop-free l = Filling l.words l.place l.free l.counts l.order

abbrev pub decreases-loop-free : goal.decreases-loop-free
decreases-loop-free l = l.place
