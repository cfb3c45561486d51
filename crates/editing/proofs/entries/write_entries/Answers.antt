-- The entries of the types passed are written, and what is listed is below the last of them. Assumes nothing.
use Rattle.std.proofs.Common.{◌<◌, ap, not, arith}
use Rattle.table.specs.Words.{types}
use Rattle.table.proofs.Facts.{facts, has_children}
use Rattle.editing.proofs.Writing.{writing_start, Ready, afresh, onward, writing_skip, writing_more, whole_tally, tally_small}
use Rattle.editing.proofs.entries.write_entries.Goals as goal
use Rattle.editing.proofs.entries.write_entries.Goals.{then-above-t-eq1, else-above-t-eq1, then-not-has_child, else-not-has_child}

pub overflow_sub-last : goal.overflow_sub-last
overflow_sub-last c = omega (arith, c.types-last.ensures.is, (facts c.requires.0.accepted).some)

pub loop-k-init : goal.loop-k-init
loop-k-init c = writing_start c.nothing-grown.ensures

pub bounds-order-k : goal.bounds-order-k
bounds-order-k c = omega (arith, c.loop-k-test.true, c.types-last.ensures.is, (facts c.requires.0.accepted).few)

pub children-requires : goal.children-requires
children-requires c = rw c.from-t.ensures (has_children c.requires.0.accepted (c.requires.1.inside _ (omega (arith, c.loop-k-test.true, c.types-last.ensures.is))))

pub grow-grown-requires : goal.grow-grown-requires
grow-grown-requires c = let type : c.from-t.result < types c.args.words.now = rw c.from-t.ensures (c.requires.1.inside _ (omega (arith, c.loop-k-test.true, c.types-last.ensures.is))) in
    let at = c.loop-k.invariant.ready in
    let ready : let a = c.args in Ready a.words.now a.marks.now c.if-not-has_child.flags c.loop-k.list c.if-not-has_child.grown c.from-t.result =
    elim c.if-not-has_child.branch [
      | then-not-has_child w ↦ rw (w.flags-is, w.grown-is) (afresh at.0.flags_are.listed.room w.nothing-grown-then-not-has_child.ensures)
      | else-not-has_child w ↦ rw (w.flags-is, w.grown-is) (onward c.requires.0.accepted type at c.has_child.result (rw c.children.ensures at c.has_child.ensures) (ap not w.if-not-has_child.false))
    ] in
    let pre = c.requires in
    (pre.0, pre.2, type, ready.0, ready.1)

pub put_entry-requires : goal.put_entry-requires
put_entry-requires c = let accepted = c.requires.0.accepted in
    let type : c.from-t.result < types c.args.words.now = rw c.from-t.ensures (c.requires.1.inside _ (omega (arith, c.loop-k-test.true, c.types-last.ensures.is))) in
    let small = tally_small _ _ accepted (whole_tally accepted type c.grow-grown.ensures) in
    (omega (arith, type, c.requires.3, c.loop-k.invariant.written.size), omega (arith, type, (facts accepted).few), small.0, small.1)

pub loop-k-preserved : goal.loop-k-preserved
loop-k-preserved c = let at = c.loop-k.invariant in
    let t = c.from-t.ensures in
    elim c.if-above-t-eq1.branch [
      | then-above-t-eq1 w ↦ rw (w.kept-is, w.flags-is, w.list-is, w.grown-is, w.y-is, t) (writing_more at c.loop-k-test.true c.requires.0.accepted c.requires.1 (omega (arith, c.loop-k-test.true, c.types-last.ensures.is)) (rw t at w.if-above-t-eq1.true) (rw t at w.grow-grown.ensures) (rw t at w.put_entry.ensures))
      | else-above-t-eq1 w ↦ rw (w.kept-is, w.flags-is, w.list-is, w.grown-is, w.y-is) (writing_skip at c.loop-k-test.true (rw t at w.if-above-t-eq1.false))
    ]
