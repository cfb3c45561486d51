-- The loop passes the types taken, one after another, from the last place down. Assumes nothing.
use Rattle.table.proofs.Passes.{filling_start}
use Rattle.table.proofs.Rooted.{refused, filled}
use Rattle.table.proofs.order.is_ordered.Goals as goal

pub returns-then-counts-root-ne0 : goal.returns-then-counts-root-ne0
returns-then-counts-root-ne0 c = refused c.requires.0 c.requires.1 c.told-order c.word_at-root.ensures.is c.if-counts-root-ne0.true

pub loop-free-init : goal.loop-free-init
loop-free-init c = filling_start c.args.order.now c.requires.0 c.requires.1 c.told-order c.word_at-root.ensures.is c.if-counts-root-ne0.false c.types-place.ensures.is

pub returns : goal.returns
returns c = filled c.loop-free.invariant c.loop-free-test.false
