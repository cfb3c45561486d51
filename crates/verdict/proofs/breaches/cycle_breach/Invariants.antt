-- The loop has passed no position with a cycle that breaks condition 3. Assumes nothing.
use Rattle.verdict.specs.Steps.Spoils.{Flagged}
use Rattle.verdict.proofs.Breached.{CyclesFrom}
use Rattle.verdict.proofs.breaches.cycle_breach.Given as goal

abbrev pub invariant-loop-i : goal.invariant-loop-i
invariant-loop-i l = CyclesFrom l.words l.marks (Flagged l.flags) l.x l.i
