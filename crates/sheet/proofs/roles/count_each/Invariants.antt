-- The roles before the loop's are counted. Assumes nothing.
use Rattle.sheet.specs.Steps.Counting.{Counted}
use Rattle.sheet.proofs.roles.count_each.Given as goal

abbrev pub invariant-loop-r : goal.invariant-loop-r
invariant-loop-r l = Counted l.words l.r l.marks l.figures l.counts
