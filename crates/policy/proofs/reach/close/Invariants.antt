-- The loop has closed the square over the positions below k. Assumes nothing.
use Rattle.policy.proofs.SquareLaws.{ClosedSoFar}
use Rattle.policy.proofs.reach.close.Given as goal

abbrev pub invariant-loop-k : goal.invariant-loop-k
invariant-loop-k l = ClosedSoFar l.n l.k l.initial.closed l.closed
