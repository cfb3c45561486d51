-- The loop passes the types that come new, one after another, and adds what is forbidden of their own. Assumes nothing.
use Rattle.std.proofs.Common.{arith}
use Rattle.table.proofs.Facts.{facts, accepted_childed, has_children}
use Rattle.table.proofs.HowMany.{many_most, tallied_many}
use Rattle.table.proofs.Listings.{listed_within}
use Rattle.table.proofs.Marks.{mark_asks}
use Rattle.verdict.proofs.Tallies.{one_inside}
use Rattle.editing.proofs.Grown.{grow_start, grow_more, grow_all}
use Rattle.editing.proofs.growing.grow.Goals as goal

pub add_kids-n-requires : goal.add_kids-n-requires
add_kids-n-requires c = (c.requires.3.flags_are, one_inside (omega (arith, c.requires.2, (facts c.requires.0.accepted).few)))

pub loop-head-init : goal.loop-head-init
loop-head-init c = grow_start (accepted_childed c.requires.0.accepted) c.requires.2 c.requires.3 c.requires.4 c.add_kids-n.ensures

pub bounds-list-head : goal.bounds-list-head
bounds-list-head c = omega (arith, c.loop-head-test.true, listed_within c.loop-head.invariant.marking.flags.listed)

pub together-tally-requires : goal.together-tally-requires
together-tally-requires c = let few = (facts c.requires.0.accepted).privileges_few in
    (omega (arith, few, many_most (tallied_many c.loop-head.invariant.told)), omega (arith, few, many_most (tallied_many c.own_tally.ensures)))

pub children-requires : goal.children-requires
children-requires c = rw c.from-t.ensures (has_children c.requires.0.accepted (c.loop-head.invariant.marking.inside c.loop-head.head c.loop-head-test.true))

pub add_kids-n-requires-in-loop-head : goal.add_kids-n-requires-in-loop-head
add_kids-n-requires-in-loop-head c = mark_asks (accepted_childed c.requires.0.accepted) c.loop-head.invariant.marking c.loop-head-test.true (rw c.from-t.ensures at c.children.ensures)

pub loop-head-smaller : goal.loop-head-smaller
loop-head-smaller c = omega (arith, c.loop-head-test.true, listed_within c.loop-head.invariant.marking.flags.listed)

pub loop-head-preserved : goal.loop-head-preserved
loop-head-preserved c = grow_more (accepted_childed c.requires.0.accepted) c.requires.2 c.loop-head.invariant c.loop-head-test.true (rw c.from-t.ensures at c.own_tally.ensures)
    c.together-tally.ensures (rw c.from-t.ensures at c.children.ensures) c.add_kids-n-in-loop-head.ensures

pub returns : goal.returns
returns c = grow_all (accepted_childed c.requires.0.accepted) c.loop-head.invariant c.loop-head-test.false
