-- The loop has written the positions before p. Assumes nothing.
use Rattle.policy.specs.Steps.Squares.{Marked}
use Rattle.chain.proofs.Ways.{Walked}
use Rattle.chain.proofs.chain_of.Given as goal

abbrev pub invariant-loop-k : goal.invariant-loop-k
invariant-loop-k l = Walked (Marked l.n l.rows) l.n l.i l.j l.m l.k l.p l.at
