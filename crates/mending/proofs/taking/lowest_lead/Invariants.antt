-- The loop has passed no lower lead, and there is one. Assumes nothing.
use Rattle.mending.specs.Steps.Taking.{LeadsIn}
use Rattle.std.proofs.Common.{ℕ, ◌-◌, ◌<◌}
use Rattle.mending.proofs.taking.lowest_lead.Given as goal

abbrev pub invariant-loop-n : goal.invariant-loop-n
invariant-loop-n loop = (l : ℕ) → l < loop.k → ¬ LeadsIn loop.marks loop.n loop.square loop.i loop.j l

abbrev pub decreases-loop-n : goal.decreases-loop-n
decreases-loop-n l = l.n.count - l.k
