-- The loop passes words until no operand is to come. Assumes nothing.
use Rattle.write.proofs.Skips.{Skipping}
use Rattle.write.proofs.read.skip.Given as goal

abbrev pub invariant-loop-at : goal.invariant-loop-at
invariant-loop-at l = Skipping l.code l.initial.at l.initial.free l.need l.at l.free
