-- Where all is alike the replacements are moved at once; else the rows passed are moved. Assumes nothing.
use Rattle.std.proofs.Common.{◌≡◌, arith}
use Rattle.carry.proofs.Replacing.{rows_more, rows_alike, room_all, room_alike}
use Rattle.carry.proofs.replaced.carry_rows.Goals as goal

pub move_marks-requires : goal.move_marks-requires
move_marks-requires c = rw c.replacements.ensures (λ some.
    let room = c.requires in
    (room_all room.0 some, room_all room.1 some, room_alike (c.is_alike.ensures c.if-is_alike.true) room.2 some))

pub returns-then-is_alike : goal.returns-then-is_alike
returns-then-is_alike c = let a = c.args in
    rows_alike a.from a.to a.at.now c.requires.0.small (c.is_alike.ensures c.if-is_alike.true)
    (rw c.replacements.ensures at c.move_marks.ensures)

pub loop-i-preserved : goal.loop-i-preserved
loop-i-preserved c = let a = c.args in
    rows_more a.from a.to a.at.now c.loop-i.i c.loop-i.invariant c.carry_row.ensures

pub returns : goal.returns
returns c = let all : c.loop-i.i ≡ c.args.from.count = omega arith in
    rw all at c.loop-i.invariant
