-- Each item is read behind what was read before.
use Rattle.std.proofs.Common.{arith}
use Rattle.scan.proofs.Readings.{handed_on}
use Rattle.scan.proofs.Declared.{at_the_end, after_declared, after_remarked, at_refused}
use Rattle.scan.proofs.item.items.Goals as goal

pub returns-then-b-s : goal.returns-then-b-s
returns-then-b-s c = at_the_end c.loop-i.seen c.args.s.now c.loop-i.i c.blanks-b.result c.loop-i.invariant.1 c.blanks-b.ensures (omega arith) c.finish.ensures

pub returns-in_err-e : goal.returns-in_err-e
returns-in_err-e c = let g = c.blanks-b.ensures in
    rw (handed_on c.from_residual.result c.from_residual.ensures.1)
    (at_refused c.loop-i.seen c.args.s.now c.loop-i.i c.blanks-b.result c.loop-i.invariant.1 g (omega (arith, g.inside)) _ c.in_err-e.ensures)

pub loop-i-smaller-in-Declared : goal.loop-i-smaller-in-Declared
loop-i-smaller-in-Declared c = let g = c.blanks-b.ensures in
    let y = after_declared c.loop-i.seen c.args.s.now c.loop-i.i c.blanks-b.result c.loop-i.invariant.1 g (omega (arith, g.inside)) c.in-Declared.e (rw c.in-Declared.is at c.in_ok-e.ensures) in
    omega (arith, y.0, y.1)

pub loop-i-preserved-in-Declared : goal.loop-i-preserved-in-Declared
loop-i-preserved-in-Declared c = let g = c.blanks-b.ensures in
    let y = after_declared c.loop-i.seen c.args.s.now c.loop-i.i c.blanks-b.result c.loop-i.invariant.1 g (omega (arith, g.inside)) c.in-Declared.e (rw c.in-Declared.is at c.in_ok-e.ensures) in
    (y.1, y.2)

pub loop-i-smaller : goal.loop-i-smaller
loop-i-smaller c = let g = c.blanks-b.ensures in
    let y = after_remarked c.loop-i.seen c.args.s.now c.loop-i.i c.blanks-b.result c.loop-i.invariant.1 g (omega (arith, g.inside)) c.in-Remarked.e (rw c.in-Remarked.is at c.in_ok-e.ensures) in
    omega (arith, y.0, y.1)

pub loop-i-preserved : goal.loop-i-preserved
loop-i-preserved c = let g = c.blanks-b.ensures in
    let y = after_remarked c.loop-i.seen c.args.s.now c.loop-i.i c.blanks-b.result c.loop-i.invariant.1 g (omega (arith, g.inside)) c.in-Remarked.e (rw c.in-Remarked.is at c.in_ok-e.ensures) in
    (y.1, y.2)
