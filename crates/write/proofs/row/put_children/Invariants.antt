-- The loop has put the children of the operands passed. Assumes nothing.
use Rattle.write.proofs.Puts.{Putting}
use Rattle.write.proofs.row.put_children.Given as goal

abbrev pub invariant-loop-i : goal.invariant-loop-i
invariant-loop-i l = Putting l.code l.n l.start l.initial.out l.initial.place.at l.initial.place.free l.out l.place.at l.place.free l.i
