-- The loop has the word from position p on. Assumes nothing.
use Rattle.std.proofs.Common.{arith}
use Rattle.policy.proofs.Bits.{row_more, shared_into, positions_end}
use Rattle.policy.proofs.rows.leading_into.Goals as goal

pub loop-p-preserved : goal.loop-p-preserved
loop-p-preserved c = row_more c.loop-p.invariant c.loop-p-test.true (shared_into c.requires.1 (omega arith) c.shared.ensures)

pub returns : goal.returns
returns c = positions_end c.requires.0 c.loop-p-test.false c.loop-p.invariant
