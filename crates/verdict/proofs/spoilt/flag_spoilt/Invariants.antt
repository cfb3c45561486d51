-- The pass keeps what the types passed, and those still to come, hold. Assumes nothing.
use Rattle.verdict.proofs.Spoils.{Climbed}
use Rattle.verdict.proofs.spoilt.flag_spoilt.Given as goal

abbrev pub invariant-loop-t : goal.invariant-loop-t
invariant-loop-t l = Climbed l.words l.marks l.order l.t-index l.initial.flags l.flags
