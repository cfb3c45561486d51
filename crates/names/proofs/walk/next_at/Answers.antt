-- The loop keeps that the items from the start on are those from here on.
use Rattle.std.proofs.Common.{add-one, arith}
use Rattle.names.proofs.Items.{items_space, items_comment, items_over, next_declared}
use Rattle.names.proofs.walk.next_at.Goals as goal

pub loop-i-preserved-then-is_of : goal.loop-i-preserved-then-is_of
loop-i-preserved-then-is_of c = (omega arith, λ ds r. rw (add-one c.loop-i.i) (items_space c.if-is_of.ensures (c.loop-i.invariant.1 ds r)))

pub loop-i-preserved : goal.loop-i-preserved
loop-i-preserved c = (omega (arith, c.remark_end-i.ensures.from), λ ds r. items_comment c.if-is_of.ensures c.if-is.ensures c.remark_end-i.ensures (c.loop-i.invariant.1 ds r))

pub returns-else-is : goal.returns-else-is
returns-else-is c = next_declared c.loop-i.invariant.0 c.loop-i.invariant.1 (omega arith) c.if-is_of.ensures c.if-is.ensures c.declared_at.ensures

pub returns : goal.returns
returns c = record { of = λ ds r. items_over (omega arith) (c.loop-i.invariant.1 ds r); moved = tt }
