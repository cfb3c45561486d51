-- A row of eight or more is written by its first eight and its last eight, a shorter one at once; its gap is closed before. Assumes nothing.
use Rattle.std.proofs.Common.{arith}
use Rattle.policy.proofs.RowMarks.{row_room}
use Rattle.policy.proofs.Writings.{range_row, row_eights}
use Rattle.policy.proofs.write.write_row.Goals as goal

pub write_bits-requires : goal.write_bits-requires
write_bits-requires c = row_room c.requires.0 c.requires.1 c.row_at-at.ensures.is c.width-own.ensures

pub returns-then-own-lt8 : goal.returns-then-own-lt8
returns-then-own-lt8 c = range_row c.requires.0.small c.requires.1 c.row_at-at.ensures.is (rw c.missing.ensures.is at c.without_gap-bits.ensures) (rw c.width-own.ensures at c.write_bits.ensures)

pub write_bits-requires-2 : goal.write_bits-requires-2
write_bits-requires-2 c =
    let room = row_room c.requires.0 c.requires.1 c.row_at-at.ensures.is c.width-own.ensures in
    (omega arith, λ some. omega (arith, room.1 (omega arith)))

pub write_bits-requires-3 : goal.write_bits-requires-3
write_bits-requires-3 c =
    let room = row_room c.requires.0 c.requires.1 c.row_at-at.ensures.is c.width-own.ensures in
    (omega arith, λ some. omega (arith, room.1 (omega arith), c.write_bits-2.ensures.size))

pub returns : goal.returns
returns c = row_eights c.requires.0.small c.requires.1 (omega (arith, c.width-own.ensures)) c.row_at-at.ensures.is
    (rw c.missing.ensures.is at c.without_gap-bits.ensures) c.write_bits-2.ensures (rw c.width-own.ensures at c.write_bits-3.ensures)
