-- The loop has put the bytes passed. Assumes nothing.
use Rattle.runs.proofs.Texts.{Filled}
use Rattle.runs.proofs.put.Given as goal

abbrev pub invariant-loop-k : goal.invariant-loop-k
invariant-loop-k l = Filled l.initial.out l.at l.bytes l.k l.out
