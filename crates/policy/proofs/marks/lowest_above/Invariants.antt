-- No mark is above 2, or the loop has passed none. Assumes nothing.
use Rattle.table.proofs.Lowest.{Passed}
use Rattle.policy.specs.Marks.{Legal}
use lib.ListN.{length}
use Rattle.policy.proofs.marks.lowest_above.Given as goal

abbrev pub invariant-loop-p : goal.invariant-loop-p
invariant-loop-p l = Passed (Legal l.marks) (length l.marks) l.p
