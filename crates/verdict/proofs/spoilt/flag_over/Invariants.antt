-- The loop has the flag of the children passed. Assumes nothing.
use Rattle.verdict.specs.Steps.Spoils.{Joined}
use Rattle.verdict.proofs.spoilt.flag_over.Given as goal

abbrev pub invariant-loop-kid : goal.invariant-loop-kid
invariant-loop-kid l = Joined l.kid-index l.kids l.flags l.own l.flag
