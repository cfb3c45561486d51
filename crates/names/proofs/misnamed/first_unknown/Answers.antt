-- The first of the names from here on is the first of all, since those so far are declared. Assumes nothing.
use Rattle.std.proofs.Common.{arith, add-one}
use Rattle.std.proofs.Common.{Some, None}
use Rattle.names.proofs.Unknowns.{name_end_past, unknown_over, unknown_none, unknown_skip, unknown_hit, unknown_past}
use Rattle.names.proofs.misnamed.first_unknown.Goals as goal

pub returns-then-is : goal.returns-then-is
returns-then-is c = c.loop-i.invariant None (unknown_none c.if-is.ensures)

pub loop-i-smaller-then-number-names : goal.loop-i-smaller-then-number-names
loop-i-smaller-then-number-names c = omega (arith, name_end_past c.if-is_of.ensures c.name_end-i.ensures)

pub loop-i-preserved-then-number-names : goal.loop-i-preserved-then-number-names
loop-i-preserved-then-number-names c = λ r x.
    (let y = unknown_past c.if-is.ensures c.if-is_of.ensures c.number.ensures (omega arith) c.name_end-i.ensures r x in
    c.loop-i.invariant r y)

pub returns-else-number-names : goal.returns-else-number-names
returns-else-number-names c = c.loop-i.invariant (Some c.loop-i.i) (unknown_hit c.if-is.ensures c.if-is_of.ensures c.number.ensures (omega arith))

pub loop-i-preserved : goal.loop-i-preserved
loop-i-preserved c = λ r x.
    (c.loop-i.invariant r (unknown_skip c.if-is.ensures c.if-is_of.ensures r (rw (add-one c.loop-i.i) at x)))

pub returns : goal.returns
returns c = c.loop-i.invariant None (unknown_over (omega arith))
