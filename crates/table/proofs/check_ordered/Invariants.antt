-- The loop keeps that every check of a lower rank passes. Assumes nothing.
use Rattle.std.proofs.Common.{◌+◌, ◌<◌}
use Rattle.table.specs.declared.check.Check.{Check}
use Rattle.table.specs.Check.{rank_of, Passes}
use Rattle.table.proofs.check_ordered.Given as goal

abbrev pub invariant-loop-check : goal.invariant-loop-check
invariant-loop-check l = (c : Check) → rank_of c < l.check-index + 1 → Passes l.words c
