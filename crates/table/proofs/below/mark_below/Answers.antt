-- The loop passes the types listed, one after another. Assumes nothing.
use Rattle.std.proofs.Common.{refl, arith}
use Rattle.table.proofs.Marks.{flags_none, inside_256, mark_start, mark_more, mark_all}
use Rattle.table.proofs.Listings.{listed_within}
use Rattle.table.proofs.Children.{tiled_children}
use Rattle.table.proofs.below.mark_below.Goals as goal

pub add_kids-n-requires : goal.add_kids-n-requires
add_kids-n-requires c = (rw c.requires.2 (flags_none refl), inside_256 c.args.from.now c.requires.0 c.requires.1)

pub loop-head-init : goal.loop-head-init
loop-head-init c = mark_start c.requires.1 c.add_kids-n.ensures

pub bounds-order-head : goal.bounds-order-head
bounds-order-head c = omega (arith, listed_within c.loop-head.invariant.flags.listed)

pub children-kids-requires : goal.children-kids-requires
children-kids-requires c = rw c.from.ensures (tiled_children c.requires.0.tiled _ (c.loop-head.invariant.inside c.loop-head.head c.loop-head-test.true))

pub loop-head-smaller : goal.loop-head-smaller
loop-head-smaller c = omega (arith, listed_within c.loop-head.invariant.flags.listed)

pub loop-head-preserved : goal.loop-head-preserved
loop-head-preserved c = mark_more c.requires.0 c.loop-head.invariant c.loop-head-test.true (rw c.from.ensures at c.children-kids.ensures) c.requires.1 c.add_kids-n-in-loop-head.ensures

pub returns : goal.returns
returns c = mark_all c.requires.0 c.requires.1 c.loop-head.invariant c.loop-head-test.false
