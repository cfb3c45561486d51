-- What comparing the rests of the two names tells, comparing the names tells.
use Rattle.std.proofs.Common.{true, false, refl, add-one, arith}
use Rattle.names.proofs.Runs.{upto_names, upto_more, upto_differ, upto_longer, upto_end}
use Rattle.names.proofs.list.upto.Goals as goal

pub returns-then-not-is_of : goal.returns-then-not-is_of
returns-then-not-is_of c = upto_names (c.loop-i.invariant true (upto_end c.if-not-is_of.ensures))

pub returns-then-is_of : goal.returns-then-is_of
returns-then-is_of c = upto_names (c.loop-i.invariant _ (upto_differ _ c.if-not-is_of.ensures c.if-not-is.ensures c.if-is_of.ensures refl))

pub returns-else-is_of : goal.returns-else-is_of
returns-else-is_of c = rw c.if-is_of.false (upto_names (c.loop-i.invariant false (upto_longer c.if-not-is_of.ensures c.if-is_of.ensures)))

pub loop-i-preserved : goal.loop-i-preserved
loop-i-preserved c = λ r x. c.loop-i.invariant r (upto_more r c.if-not-is_of.ensures c.if-not-is.ensures (rw (add-one c.loop-i.i, add-one c.loop-i.j) at x))

pub returns : goal.returns
returns c = upto_names (c.loop-i.invariant true (upto_end (λ o. omega (arith, o.within))))
