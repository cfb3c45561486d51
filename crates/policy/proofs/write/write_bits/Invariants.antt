-- The loop has decided the marks of the lowest k bits. Assumes nothing.
use Rattle.policy.proofs.Writings.{BitsWritten}
use Rattle.policy.proofs.write.write_bits.Given as goal

abbrev pub invariant-loop-k : goal.invariant-loop-k
invariant-loop-k l = BitsWritten l.bits l.at l.k l.initial.out l.out
