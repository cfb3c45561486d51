-- No privilege has another change, or the loop has passed none. Assumes nothing.
use Rattle.table.proofs.Lowest.{Passed}
use Rattle.proposing.specs.Proposals.{Kept}
use Rattle.pairs.specs.Maps.{maps, marks_of}
use Rattle.pairs.proofs.changes.lowest_change.Given as goal

abbrev pub invariant-loop-p : goal.invariant-loop-p
invariant-loop-p l = Passed (Kept (marks_of l.v (maps l.allowed l.forbidden)) (marks_of l.v (maps l.proposed_allowed l.proposed_forbidden))) l.v l.p
