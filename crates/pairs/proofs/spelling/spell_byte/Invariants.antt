-- The loop has written the marks of the lowest j bits. Assumes nothing.
use Rattle.pairs.proofs.Spells.{BitsSpelled}
use Rattle.pairs.proofs.spelling.spell_byte.Given as goal

abbrev pub invariant-loop-j : goal.invariant-loop-j
invariant-loop-j l = BitsSpelled l.allowed l.forbidden l.at l.j l.initial.marks l.marks
