-- The marks before the loop's place are counted, and no number from there on has changed. Assumes nothing.
use Rattle.sheet.proofs.Slots.{CountedTo}
use Rattle.sheet.proofs.counts.count_marks.Given as goal

abbrev pub invariant-loop-p : goal.invariant-loop-p
invariant-loop-p l = CountedTo l.marks l.initial.counts l.p l.counts
