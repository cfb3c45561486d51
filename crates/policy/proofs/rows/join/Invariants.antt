-- The loop has joined the rows up to this one with row k as it was. Assumes nothing.
use Rattle.std.proofs.Common.{get_or}
use Rattle.policy.specs.Steps.Squares.{RowJoined}
use Rattle.policy.proofs.SquareLaws.{RowsSoFar}
use Rattle.policy.proofs.rows.join.Given as goal

abbrev pub invariant-loop-other : goal.invariant-loop-other
invariant-loop-other l = RowsSoFar (λ a r. RowJoined l.k l.row (get_or l.initial.rows a 0) r) l.other-index l.initial.rows l.rows
