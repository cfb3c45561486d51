-- A code that is too long is no code; else all of its words are counted. Assumes nothing.
use Rattle.write.proofs.Totals.{counted}
use Rattle.write.proofs.count.Goals as goal

pub returns : goal.returns
returns c = λ ds h. counted ds h c.loop-word.invariant.1 c.loop-word-test.false
