-- The text before the place reached is the listing of the marks so far. Assumes nothing.
use Rattle.std.proofs.Common.{arith}
use Rattle.reading.proofs.Reached.{line_below, reached_start, reached_more, reached_on, reached_none, reached_not, reached_end}
use Rattle.reading.proofs.read_lines.Goals as goal

pub loop-at-init : goal.loop-at-init
loop-at-init c = let p = c.requires in reached_start p.0.accepted c.told-marks p.1

pub returns-in_default : goal.returns-in_default
returns-in_default c = let p = c.requires.0 in
    reached_none p.accepted p.labelled c.loop-at.invariant c.loop-at-test.true c.in_default.ensures

pub returns-then-p-from : goal.returns-then-p-from
returns-then-p-from c = let p = c.requires.0 in
    reached_not p.accepted p.labelled c.loop-at.invariant c.loop-at-test.true c.in-Some.ensures c.if-p-from.true

pub bounds-marks-p : goal.bounds-marks-p
bounds-marks-p c = line_below c.requires.0.accepted c.in-Some.ensures

pub overflow_add-from : goal.overflow_add-from
overflow_add-from c = omega (arith, line_below c.requires.0.accepted c.in-Some.ensures)

pub loop-at-smaller : goal.loop-at-smaller
loop-at-smaller c = let p = c.requires.0 in
    omega (arith, reached_on p.accepted p.labelled c.loop-at.invariant c.loop-at-test.true c.in-Some.ensures)

pub loop-at-preserved : goal.loop-at-preserved
loop-at-preserved c = let p = c.requires.0 in
    reached_more p.accepted p.labelled c.loop-at.invariant c.loop-at-test.true c.in-Some.ensures c.if-p-from.false

pub returns : goal.returns
returns c = let p = c.requires.0 in
    reached_end p.accepted p.labelled c.loop-at.invariant c.loop-at-test.false
