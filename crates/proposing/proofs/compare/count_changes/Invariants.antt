-- The loop has counted the changes passed. Assumes nothing.
use Rattle.std.proofs.Common.{◌≤◌, length}
use Rattle.proposing.specs.Proposals.{Changed}
use Rattle.table.specs.HowMany.{HowMany}
use Rattle.proposing.proofs.compare.count_changes.Given as goal

abbrev pub invariant-loop-old : goal.invariant-loop-old
invariant-loop-old l = HowMany (Changed l.marks l.proposed) (length l.yielded) l.count × (l.count ≤ length l.yielded)
