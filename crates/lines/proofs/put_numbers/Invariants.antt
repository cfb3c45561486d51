-- The loop has put the numbers passed. Assumes nothing.
use Rattle.lines.proofs.Spaced.{Spaced}
use Rattle.lines.proofs.put_numbers.Given as goal

abbrev pub invariant-loop-n : goal.invariant-loop-n
invariant-loop-n l = Spaced l.initial.out l.at l.ns l.n-index l.out l.end
