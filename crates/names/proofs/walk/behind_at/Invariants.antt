-- No '>' stands in what was passed.
use Rattle.names.proofs.Contents.{Clear}
use Rattle.names.proofs.walk.behind_at.Given as goal

abbrev pub invariant-loop-i : goal.invariant-loop-i
invariant-loop-i l = Clear l.s l.body l.i
