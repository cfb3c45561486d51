-- No bit is shared, or the loop has passed no privilege with both. Assumes nothing.
use Rattle.table.proofs.Lowest.{Passed}
use Rattle.pairs.specs.Maps.{maps, Apart}
use Rattle.pairs.proofs.check.lowest_both.Given as goal

abbrev pub invariant-loop-p : goal.invariant-loop-p
invariant-loop-p l = Passed (Apart (maps l.allowed l.forbidden)) l.v l.p
