-- The first of the names from here on is the first of all, since those so far are declared. Assumes nothing.
use Rattle.std.proofs.Common.{ℕ, ◌-◌, length, Option}
use Rattle.names.specs.Steps.Wrong.{UnknownRead}
use Rattle.names.proofs.misnamed.first_unknown.Given as goal

abbrev pub invariant-loop-i : goal.invariant-loop-i
invariant-loop-i l = (r : Option ℕ) → UnknownRead l.s l.names.entries l.names.count l.i r → UnknownRead l.s l.names.entries l.names.count l.at r

abbrev pub decreases-loop-i : goal.decreases-loop-i
decreases-loop-i l = length l.s - l.i
