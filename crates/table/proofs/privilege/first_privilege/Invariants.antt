-- The loop keeps the sum over the types passed. Assumes nothing.
use Rattle.std.proofs.Common.{◌≡◌, ◌*◌, ◌≤◌}
use Rattle.table.specs.Privilege.{privileges_at}
use Rattle.table.specs.Sum.{sum_below}
use Rattle.table.proofs.privilege.first_privilege.Given as goal

abbrev pub invariant-loop-y : goal.invariant-loop-y
invariant-loop-y l = (l.sum ≡ sum_below (privileges_at l.words) l.y) × (l.sum ≤ 4294967296 * l.y)
