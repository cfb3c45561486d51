-- The loop has passed no place at which the check fails. Assumes nothing.
use Rattle.table.proofs.Lowest.{Passed}
use Rattle.table.specs.Check.{Holds, places_of}
use Rattle.table.proofs.check.lowest_failing.Given as goal

abbrev pub invariant-loop-p : goal.invariant-loop-p
invariant-loop-p l = Passed (Holds l.words l.check) (places_of l.words l.check) l.p
