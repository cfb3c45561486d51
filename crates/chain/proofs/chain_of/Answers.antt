-- The loop has written the positions before p. Assumes nothing.
use Rattle.std.proofs.Common.{arith}
use Rattle.chain.proofs.Ways.{plus_from, walked_start, walked_more, walked_end}
use Rattle.chain.proofs.chain_of.Goals as goal

pub loop-k-init : goal.loop-k-init
loop-k-init c = walked_start (plus_from c.requires.1) c.fewest_steps-m.ensures

pub loop-k-preserved : goal.loop-k-preserved
loop-k-preserved c = walked_more c.requires.0 c.fewest_steps-m.ensures c.loop-k.invariant c.loop-k-test.true c.lowest_shared-p.ensures

pub returns : goal.returns
returns c = walked_end c.requires.0 c.fewest_steps-m.ensures c.loop-k.invariant (omega arith)
