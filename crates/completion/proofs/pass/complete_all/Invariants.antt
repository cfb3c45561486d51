-- The pass has done the types from place k of the order on, and so the parents of the type that it comes to. Assumes nothing.
use Rattle.completion.proofs.Descent.{Descended}
use Rattle.completion.proofs.pass.complete_all.Given as goal

abbrev pub invariant-loop-k : goal.invariant-loop-k
invariant-loop-k l = Descended l.words l.initial.m l.order l.k l.opened l.m
