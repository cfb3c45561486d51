-- The loop has done the first r roles. Assumes nothing.
use Rattle.roles.proofs.Progress.{Upto}
use Rattle.roles.proofs.complete_each.Given as goal

abbrev pub invariant-loop-r : goal.invariant-loop-r
invariant-loop-r l = Upto l.words l.marks l.initial.numbers l.initial.out l.r l.numbers l.out
