-- The items passed were read. Assumes nothing.
use Rattle.stream.specs.Advances.{Advances}
use Rattle.stream.proofs.read_items.Given as goal

abbrev pub invariant-loop-item : goal.invariant-loop-item
invariant-loop-item g l = Advances (g.R.Read.remaining l.initial.reader) (g.R.Read.remaining l.reader)
