-- The loop has written the rows that are due at the words passed. Assumes nothing.
use Rattle.write.proofs.Passes.{passing_more}
use Rattle.write.proofs.row.write_pass.Goals as goal

pub loop-c-preserved : goal.loop-c-preserved
loop-c-preserved c = passing_more c.loop-c.invariant c.loop-c-test.true c.wide-w.ensures c.write_word-at.ensures
    c.free_after-free.ensures c.need_after-need.ensures
