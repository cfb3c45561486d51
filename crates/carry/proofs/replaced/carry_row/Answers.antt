-- A child without a place moves nothing; else the replacements passed are moved. Assumes nothing.
use Rattle.std.proofs.Common.{arith}
use Rattle.carry.proofs.Replacing.{moved_more, row_all, row_room, room_after}
use Rattle.carry.proofs.replaced.carry_row.Goals as goal

pub carry_replacement-requires : goal.carry_replacement-requires
carry_replacement-requires c = let pre = c.requires in
    let at = c.loop-j.invariant in
    let old = c.row_of-old.ensures in (
      row_room pre.0.small old pre.3 pre.0,
      row_room pre.0.small old pre.3 (room_after pre.1 at.lost_size),
      row_room pre.2.small c.row_of-new.ensures (omega (arith, c.if-to-place.false)) (room_after pre.2 at.out_size),
    )

pub loop-j-preserved : goal.loop-j-preserved
loop-j-preserved c =
    moved_more c.row_of-old.result c.row_of-new.result c.args.at.now c.loop-j.j c.loop-j.invariant (rw c.word_at.ensures.is at c.carry_replacement.ensures)

pub returns : goal.returns
returns c = let a = c.args in
    let pre = c.requires in
    let place = c.word_at-place.ensures.is in
    row_all a.from a.to a.at.now a.i c.loop-j.j c.row_of-old.ensures (rw place at c.row_of-new.ensures) pre.0.small pre.2.small pre.3
    (omega (arith, place, c.if-to-place.false)) c.loop-j-test.false c.loop-j.invariant
