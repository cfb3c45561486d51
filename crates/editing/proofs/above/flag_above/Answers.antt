-- The pass has flagged those of the types passed that the type at the place is below. Assumes nothing.
use Rattle.std.proofs.Common.{◌<◌, arith}
use Rattle.table.specs.Words.{types}
use Rattle.table.proofs.Facts.{facts, has_children}
use Rattle.editing.proofs.Aboves.{rise_start, rise_more, rise_all}
use Rattle.editing.proofs.above.flag_above.Goals as goal

pub loop-k-init : goal.loop-k-init
loop-k-init c = let pre = c.requires in rw (c.from.ensures, pre.3) (rise_start pre.0 pre.1 pre.2)

pub children-requires : goal.children-requires
children-requires c = rw c.from-t.ensures (has_children c.requires.0 (c.requires.1.inside _ (omega (arith, c.loop-k-test.true, c.types-k-end.ensures.is))))

pub flag_over-requires : goal.flag_over-requires
flag_over-requires c =
    let type : c.from-t.result < types c.args.words.now = rw c.from-t.ensures (c.requires.1.inside _ (omega (arith, c.loop-k-test.true, c.types-k-end.ensures.is))) in
    let kids = c.children.ensures in
    let f = facts c.requires.0 in
    λ i l. rw kids (omega (arith, f.few, f.child_inside _ i type (rw (← f.children_here _ type, ← kids) l)))

pub loop-k-preserved : goal.loop-k-preserved
loop-k-preserved c = let pre = c.requires in
    rw c.from-t.ensures (rise_more pre.0 pre.1 pre.2 c.loop-k.invariant (omega (arith, c.loop-k.auto.k)) (omega (arith, c.loop-k-test.true, c.types-k-end.ensures.is))
    (rw (c.children.ensures, c.from-t.ensures) at c.flag_over.ensures))

pub returns : goal.returns
returns c = rise_all c.requires.1 c.loop-k.invariant (omega (arith, c.loop-k-test.false, c.types-k-end.ensures.is))
