-- The loop has put the bytes passed. Assumes nothing.
use Rattle.std.proofs.Common.{refl, arith}
use Rattle.runs.proofs.Texts.{filled_more}
use Rattle.runs.proofs.put.Goals as goal

pub loop-k-preserved : goal.loop-k-preserved
loop-k-preserved c = filled_more 0 (omega arith) (omega arith) refl c.loop-k.invariant
