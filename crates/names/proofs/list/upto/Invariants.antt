-- What comparing the rests of the two names tells, comparing the names tells. Assumes nothing.
use Rattle.std.proofs.Common.{Bool}
use Rattle.names.proofs.Runs.{UptoFrom}
use Rattle.names.proofs.list.upto.Given as goal

abbrev pub invariant-loop-i : goal.invariant-loop-i
invariant-loop-i l = (r : Bool) → UptoFrom l.s l.i l.j r → UptoFrom l.s l.a l.b r
