-- The loop has mended the types passed, and followed the rule. Assumes nothing.
use Rattle.std.proofs.Common.{◌≡◌}
use Rattle.mending.proofs.Staying.{Mending}
use Rattle.table.specs.Privilege.{first_privilege}
use Rattle.mending.proofs.mend_types.mend_all.Given as goal

abbrev pub invariant-loop-x : goal.invariant-loop-x
invariant-loop-x l = (l.first ≡ first_privilege l.words l.x) × Mending l.words l.flags l.x l.initial.m l.m l.count
