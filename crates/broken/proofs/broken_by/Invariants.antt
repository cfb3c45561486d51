-- The loop has asked each condition of the types that it has passed. Assumes nothing.
use Rattle.std.proofs.Common.{◌≡◌}
use Rattle.table.specs.Privilege.{first_privilege}
use Rattle.verdict.specs.Steps.Spoils.{Flagged}
use Rattle.broken.specs.Steps.Asking.{Asked}
use Rattle.broken.proofs.Asking.{Before}
use Rattle.broken.proofs.broken_by.Given as goal

abbrev pub invariant-loop-x : goal.invariant-loop-x
invariant-loop-x l = (l.first ≡ first_privilege l.words l.x) × Asked (Before l.words l.marks (Flagged l.flags) l.x) l.broken
