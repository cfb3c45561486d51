-- The loop has the marks from k on. Assumes nothing.
use Rattle.policy.proofs.RowMarks.{FlagsFrom}
use Rattle.policy.proofs.rows.flags_of.Given as goal

abbrev pub invariant-loop-k : goal.invariant-loop-k
invariant-loop-k l = FlagsFrom l.marks l.at l.size l.k l.flags
