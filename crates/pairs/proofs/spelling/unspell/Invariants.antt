-- The loop has written k bytes of each map, gathered from eight marks each. Assumes nothing.
use Rattle.pairs.proofs.Unspells.{Written}
use Rattle.pairs.proofs.spelling.unspell.Given as goal

abbrev pub invariant-loop-k : goal.invariant-loop-k
invariant-loop-k l = record {
  allowed : Written 1 l.marks l.k l.initial.allowed l.allowed;
  forbidden : Written 2 l.marks l.k l.initial.forbidden l.forbidden;
}
