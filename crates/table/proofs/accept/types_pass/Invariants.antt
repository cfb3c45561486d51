-- The loop keeps what the types passed are, and the sums over them. Assumes nothing.
use Rattle.table.proofs.Stamps.{TypesSoFar}
use Rattle.table.proofs.accept.types_pass.Given as goal

abbrev pub invariant-loop-t : goal.invariant-loop-t
invariant-loop-t l = TypesSoFar l.words l.t l.index l.sum l.stamps l.counts
