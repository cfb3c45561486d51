-- The loop has written the rows that are due at the words passed. Assumes nothing.
use Rattle.write.proofs.Passes.{Passing}
use Rattle.write.proofs.row.write_pass.Given as goal

abbrev pub invariant-loop-c : goal.invariant-loop-c
invariant-loop-c l = Passing l.code l.later l.x l.base l.initial.out l.initial.at.types l.initial.at.kids l.out l.at.types l.at.kids l.free l.need l.c
