-- The loop has put the bytes passed. Assumes nothing.
use Rattle.lines.specs.Text.{raised}
use Rattle.runs.proofs.Texts.{Filled}
use Rattle.lines.proofs.put.Given as goal

abbrev pub invariant-loop-k : goal.invariant-loop-k
invariant-loop-k l = Filled l.initial.out l.at (raised l.by l.bytes) l.k l.out
