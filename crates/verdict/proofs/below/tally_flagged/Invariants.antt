-- The loop has counted what is forbidden in the types passed. Assumes nothing.
use Rattle.std.proofs.Common.{◌≡◌}
use Rattle.table.specs.HowMany.{Tallied}
use Rattle.table.specs.Privilege.{first_privilege}
use Rattle.verdict.specs.Steps.Tallies.{ForbiddenAmong}
use Rattle.verdict.proofs.below.tally_flagged.Given as goal

abbrev pub invariant-loop-x : goal.invariant-loop-x
invariant-loop-x l = (l.first ≡ first_privilege l.words l.x) × Tallied (ForbiddenAmong l.words l.marks l.flags) l.first l.tally.lowest l.tally.count
