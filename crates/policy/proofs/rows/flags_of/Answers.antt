-- The loop has the marks from k on. Assumes nothing.
use Rattle.policy.proofs.RowMarks.{flags_more, flags_end}
use Rattle.policy.proofs.rows.flags_of.Goals as goal

pub loop-k-preserved : goal.loop-k-preserved
loop-k-preserved c = flags_more c.loop-k.invariant c.loop-k-test.true c.flag.ensures c.flag-in-loop-k.ensures

pub returns : goal.returns
returns c = flags_end c.loop-k.invariant c.requires.0 c.loop-k-test.false
