-- The items up to the place are read.
use Rattle.std.proofs.Common.{false, ◌-◌, ◌≤◌, length}
use Rattle.scan.specs.Steps.Claims.{FromItems}
use Rattle.scan.specs.Steps.Moves.{Moves}
use Rattle.scan.proofs.item.items.Given as goal

abbrev pub invariant-loop-i : goal.invariant-loop-i
invariant-loop-i l = (l.i ≤ length l.s) × Moves (FromItems false) (FromItems l.seen) l.s 0 l.i

abbrev pub decreases-loop-i : goal.decreases-loop-i
decreases-loop-i l = length l.s - l.i
