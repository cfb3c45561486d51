-- The loop has decided the rows up to i. Assumes nothing.
use Rattle.policy.proofs.Writings.{RowsWritten}
use Rattle.policy.proofs.write.write_choice.Given as goal

abbrev pub invariant-loop-i : goal.invariant-loop-i
invariant-loop-i l = RowsWritten l.n l.square l.i l.initial.out l.out
