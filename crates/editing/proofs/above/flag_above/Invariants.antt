-- The pass has flagged those of the types passed that the type at the place is below. Assumes nothing.
use Rattle.std.proofs.Common.{get_or}
use Rattle.editing.proofs.Aboves.{Rising}
use Rattle.editing.proofs.above.flag_above.Given as goal

abbrev pub invariant-loop-k : goal.invariant-loop-k
invariant-loop-k l = Rising l.words l.order (get_or l.order l.place 0) l.k l.above
