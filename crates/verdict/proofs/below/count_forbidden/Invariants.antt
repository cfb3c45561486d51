-- The loop has counted the forbidden privileges passed. Assumes nothing.
use Rattle.std.proofs.Common.{◌+◌, ◌≤◌}
use Rattle.table.specs.HowMany.{HowMany}
use Rattle.verdict.specs.Steps.Spoils.{Range}
use Rattle.verdict.proofs.below.count_forbidden.Given as goal

abbrev pub invariant-loop-mark : goal.invariant-loop-mark
invariant-loop-mark l = (l.count ≤ l.mark-index) × HowMany (Range l.marks l.from l.until) (l.from + l.mark-index) l.count
