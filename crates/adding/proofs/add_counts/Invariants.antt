-- The numbers before the loop's place are added up. Assumes nothing.
use Rattle.adding.proofs.Summing.{AddedTo}
use Rattle.adding.proofs.add_counts.Given as goal

abbrev pub invariant-loop-a : goal.invariant-loop-a
invariant-loop-a l = AddedTo l.initial.counts l.more l.a l.counts
