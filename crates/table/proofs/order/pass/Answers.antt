-- The loop has passed the first children of the type at the place. Assumes nothing.
use Rattle.std.proofs.Common.{◌≡◌, ◌+◌, ◌-◌, get_or, arith}
use Rattle.table.proofs.Children.{tiled_children}
use Rattle.table.proofs.Passes.{type_low, passing_start, passing_end, passing_some, passing_room, passing_keep, passing_take}
use Rattle.table.proofs.order.pass.Goals as goal
use Rattle.table.proofs.order.pass.Goals.{then-left-eq0, else-left-eq0}

pub children-kids-requires : goal.children-kids-requires
children-kids-requires c = rw c.from.ensures (tiled_children c.requires.0.tiled _ (type_low c.requires.1 c.requires.2))

pub loop-kid-init : goal.loop-kid-init
loop-kid-init c = passing_start c.requires.1 c.requires.2 (rw c.from.ensures at c.children-kids.ensures)

pub overflow_sub-left : goal.overflow_sub-left
overflow_sub-left c = passing_some c.requires.0 c.loop-kid.invariant c.loop-kid-test.true c.from-child.ensures

pub overflow_sub-free : goal.overflow_sub-free
overflow_sub-free c = passing_room c.requires.0 c.loop-kid.invariant c.loop-kid-test.true c.from-child.ensures

pub loop-kid-preserved : goal.loop-kid-preserved
loop-kid-preserved c = let g = c.requires.0 in
    let p = c.loop-kid.invariant in
    let l = c.loop-kid-test.true in
    let one : get_or c.loop-kid.counts c.from-child.result 0 - 1 + 1 ≡ get_or c.loop-kid.counts c.from-child.result 0 = omega (arith, passing_some g p l c.from-child.ensures) in
    elim c.if-left-eq0.branch [
      | then-left-eq0 w ↦ rw (w.order-is, w.free-is) (passing_take g p l c.from-child.ensures one w.if-left-eq0.true)
      | else-left-eq0 w ↦ rw (w.order-is, w.free-is) (passing_keep g p l c.from-child.ensures one w.if-left-eq0.false)
    ]

pub returns : goal.returns
returns c = passing_end c.requires.0 c.loop-kid.invariant c.loop-kid-test.false
