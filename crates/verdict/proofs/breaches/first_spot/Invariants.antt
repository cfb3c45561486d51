-- The loop has passed no type with a breach. Assumes nothing.
use Rattle.std.proofs.Common.{◌≡◌}
use Rattle.table.specs.Privilege.{first_privilege}
use Rattle.verdict.specs.Steps.Spoils.{Flagged}
use Rattle.verdict.proofs.Firsts.{CleanBefore}
use Rattle.verdict.proofs.breaches.first_spot.Given as goal

abbrev pub invariant-loop-x : goal.invariant-loop-x
invariant-loop-x l = (l.first ≡ first_privilege l.words l.x) × CleanBefore l.words l.marks (Flagged l.flags) l.x
