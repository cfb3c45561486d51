-- The loop has the leaders of the privileges passed, and the bar that the next must reach. Assumes nothing.
use Rattle.leaders.specs.Leaders.{often_of}
use Rattle.leaders.specs.Steps.Entering.{LeadersBelow, Bar}
use Rattle.leaders.proofs.leaders_of.Given as goal

abbrev pub invariant-loop-p : goal.invariant-loop-p
invariant-loop-p l = LeadersBelow (often_of l.counts) l.p l.at × Bar (often_of l.counts) l.p l.at l.bar
