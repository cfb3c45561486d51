-- The loop has opened the children up to i that are on a cycle. Assumes nothing.
use Rattle.std.proofs.Common.{◌≡◌, true}
use Rattle.policy.specs.Steps.Squares.{marked}
use Rattle.completion.proofs.Openings.{OpenedSoFar}
use Rattle.completion.proofs.open.open_cycles.Given as goal

abbrev pub invariant-loop-i : goal.invariant-loop-i
invariant-loop-i l = OpenedSoFar (λ k. marked l.square k k ≡ true) l.kids l.i l.initial.opened l.opened
