-- The loop has closed the square over the positions below k. Assumes nothing.
use Rattle.std.proofs.Common.{arith}
use Rattle.policy.proofs.SquareLaws.{closed_more, closed_all}
use Rattle.policy.proofs.reach.close.Goals as goal

pub loop-k-preserved : goal.loop-k-preserved
loop-k-preserved c = closed_more c.loop-k.invariant c.requires c.loop-k-test.true c.join.ensures

pub returns : goal.returns
returns c = closed_all c.loop-k.invariant (omega arith)
