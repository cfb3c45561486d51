-- The loop has the words of fewer steps. Assumes nothing.
use Rattle.std.proofs.Common.{◌-◌}
use Rattle.policy.specs.Steps.Squares.{Marked}
use Rattle.chain.proofs.Ways.{Grown}
use Rattle.chain.proofs.fewest_steps.Given as goal

abbrev pub invariant-loop-sets : goal.invariant-loop-sets
invariant-loop-sets l = Grown (Marked l.n l.rows) l.n l.i l.j l.m l.sets l.word

abbrev pub decreases-loop-sets : goal.decreases-loop-sets
decreases-loop-sets l = l.n - l.m
