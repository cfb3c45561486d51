-- The loop has read the rows up to i. Assumes nothing.
use Rattle.policy.specs.Steps.Squares.{StepIn, ForbiddenIn, Row}
use Rattle.policy.proofs.SquareLaws.{RowsSoFar}
use Rattle.policy.proofs.rows.read_rows.Given as goal

abbrev pub invariant-loop-i : goal.invariant-loop-i
invariant-loop-i l = RowsSoFar (λ a r. Row l.n.count (StepIn l.marks l.n a) r) l.i l.initial.allowed l.allowed × RowsSoFar (λ a r. Row l.n.count (ForbiddenIn l.marks l.n a) r) l.i l.initial.forbidden l.forbidden
