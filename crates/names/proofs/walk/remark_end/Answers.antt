-- The loop keeps that a comment from the start on is one from here on.
use Rattle.std.proofs.Common.{◌≡◌, suc, ◌+◌, add-one, arith}
use Rattle.names.proofs.Items.{remark_over, remark_ends, remark_two, remark_one}
use Rattle.names.proofs.walk.remark_end.Goals as goal

pub returns-then-is-2 : goal.returns-then-is-2
returns-then-is-2 c = record { of = λ b r. remark_ends c.if-is.ensures (rw (add-one c.loop-i.i) at c.if-is-2.ensures) (c.loop-i.invariant.1 b r); from = omega arith }

pub loop-i-preserved-then-is : goal.loop-i-preserved-then-is
loop-i-preserved-then-is c = let e : c.loop-i.i + 2 ≡ suc (suc c.loop-i.i) = omega arith in
    (omega arith, λ b r. rw e (remark_two c.if-is.ensures (rw (add-one c.loop-i.i) at c.if-is-2.ensures) (c.loop-i.invariant.1 b r)))

pub loop-i-preserved : goal.loop-i-preserved
loop-i-preserved c = (omega arith, λ b r. rw (add-one c.loop-i.i) (remark_one c.if-is.ensures (c.loop-i.invariant.1 b r)))

pub returns : goal.returns
returns c = record { of = λ b r. absurd (remark_over (omega arith) (c.loop-i.invariant.1 b r)); from = omega arith }
