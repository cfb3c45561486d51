-- The loop passes words until no operand is to come. Assumes nothing.
use Rattle.write.proofs.Skips.{skip_end}
use Rattle.write.proofs.read.skip.Goals as goal

pub returns-then-need-eq0 : goal.returns-then-need-eq0
returns-then-need-eq0 c = skip_end c.loop-at.invariant c.if-need-eq0.true
