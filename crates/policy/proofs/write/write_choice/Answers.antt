-- The loop has decided the rows up to i. Assumes nothing.
use Rattle.policy.proofs.Writings.{rows_more}
use Rattle.policy.proofs.write.write_choice.Goals as goal

pub loop-i-preserved : goal.loop-i-preserved
loop-i-preserved c = rows_more c.requires.small.narrow c.loop-i.invariant c.write_row.ensures
