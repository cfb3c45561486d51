-- The loop has counted the changes of the bytes passed. Assumes nothing.
use Rattle.std.proofs.Common.{◌*◌}
use Rattle.table.specs.HowMany.{HowMany}
use Rattle.proposing.specs.Proposals.{Changed}
use Rattle.pairs.specs.Maps.{maps, marks_of}
use Rattle.pairs.proofs.changes.count_changes.Given as goal

abbrev pub invariant-loop-k : goal.invariant-loop-k
invariant-loop-k l = HowMany (Changed (marks_of l.v (maps l.allowed l.forbidden)) (marks_of l.v (maps l.proposed_allowed l.proposed_forbidden))) (8 * l.k) l.count
