-- Each mark is kept, or the loop has passed no other change. Assumes nothing.
use Rattle.table.proofs.Lowest.{Passed}
use Rattle.proposing.specs.Proposals.{Kept}
use Rattle.proposing.proofs.compare.lowest_change.Given as goal

abbrev pub invariant-loop-place : goal.invariant-loop-place
invariant-loop-place l = Passed (Kept l.marks l.proposed) l.v l.place
