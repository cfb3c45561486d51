-- The loop has opened the children passed so far. Assumes nothing.
use Rattle.completion.proofs.Openings.{OpenedSoFar}
use Rattle.completion.proofs.open.open_all.Given as goal

abbrev pub invariant-loop-kid : goal.invariant-loop-kid
invariant-loop-kid l = OpenedSoFar (λ k. Unit) l.kids l.kid-index l.initial.opened l.opened
