-- The loop has the rows up to i. Assumes nothing.
use Rattle.policy.specs.Steps.Squares.{StepIn, Row}
use Rattle.policy.proofs.SquareLaws.{RowsSoFar}
use Rattle.policy.proofs.rows.allowed_rows.Given as goal

abbrev pub invariant-loop-i : goal.invariant-loop-i
invariant-loop-i l = RowsSoFar (λ a r. Row l.n.count (StepIn l.marks l.n a) r) l.i l.initial.rows l.rows
