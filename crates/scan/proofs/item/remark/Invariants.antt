-- The text up to the place is of the comment.
use Rattle.std.proofs.Common.{Bool, ◌-◌, ◌≤◌, length}
use Rattle.scan.specs.Steps.Claims.{FromRemark}
use Rattle.scan.specs.Steps.Moves.{Moves}
use Rattle.scan.proofs.item.remark.Given as goal

abbrev pub invariant-loop-at : goal.invariant-loop-at
invariant-loop-at l = (l.i ≤ length l.s) × ((seen : Bool) → Moves (FromRemark seen) (FromRemark seen) l.s l.at l.i)

abbrev pub decreases-loop-at : goal.decreases-loop-at
decreases-loop-at l = length l.s - l.i
