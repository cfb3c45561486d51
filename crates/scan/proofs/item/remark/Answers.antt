-- One byte more, or a dash and the byte behind it; what refuses them refuses the comment.
use Rattle.std.proofs.Common.{add-one, arith}
use Rattle.scan.proofs.Moving.{moves_on, reads_on}
use Rattle.scan.proofs.Remarks.{remark_stuck}
use Rattle.scan.proofs.Declared.{remark_starts, remark_two, remark_one, remark_ends}
use Rattle.scan.proofs.item.remark.Goals as goal

pub loop-at-init : goal.loop-at-init
loop-at-init c = (c.requires, λ seen. remark_starts seen c.requires)

pub returns-then-not-is_of : goal.returns-then-not-is_of
returns-then-not-is_of c = λ seen. reads_on (c.loop-at.invariant.1 seen)
    (remark_ends seen c.if-is.ensures (rw (add-one c.loop-at.i) at c.if-not-is_of.ensures) _ (rw (add-one c.loop-at.i) at c.word.ensures))

pub loop-at-preserved-then-is : goal.loop-at-preserved-then-is
loop-at-preserved-then-is c = let o = rw (add-one c.loop-at.i) at c.if-not-is_of.ensures in
    (omega (arith, o.within), λ seen. moves_on (c.loop-at.invariant.1 seen) (remark_two seen c.if-is.ensures o (omega arith)))

pub loop-at-preserved : goal.loop-at-preserved
loop-at-preserved c = let o = c.if-is_of.ensures in
    (omega (arith, o.within), λ seen. moves_on (c.loop-at.invariant.1 seen) (remark_one seen o (omega arith)))

pub returns-else-is_of : goal.returns-else-is_of
returns-else-is_of c = λ seen. reads_on (c.loop-at.invariant.1 seen) (remark_stuck seen c.loop-at.invariant.0 c.if-is_of.ensures c.if-is.ensures)
