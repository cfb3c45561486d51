-- The loop has spelled k bytes of each map. Assumes nothing.
use Rattle.pairs.specs.Maps.{maps}
use Rattle.pairs.specs.Steps.Spelling.{Spelled}
use Rattle.pairs.proofs.spelling.spell.Given as goal

abbrev pub invariant-loop-k : goal.invariant-loop-k
invariant-loop-k l = Spelled l.k (maps l.allowed l.forbidden) l.initial.marks l.marks
