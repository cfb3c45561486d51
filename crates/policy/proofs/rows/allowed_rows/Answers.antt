-- The loop has the rows up to i. Assumes nothing.
use Rattle.std.proofs.Common.{arith}
use Rattle.policy.proofs.RowMarks.{row_room, own_row_lem}
use Rattle.policy.proofs.SquareLaws.{rows_more}
use Rattle.policy.proofs.rows.allowed_rows.Goals as goal

pub ones-bits-requires : goal.ones-bits-requires
ones-bits-requires c =
    let room = row_room c.requires.room c.loop-i-test.true c.row_at.ensures.is c.width-own.ensures in
    (c.row_at.ensures.small, room.0, room.1, c.requires.legal)

pub loop-i-preserved : goal.loop-i-preserved
loop-i-preserved c = rows_more c.loop-i.invariant c.with_gap.result (omega (arith, c.requires.room.small.few))
    (own_row_lem c.requires.room.small c.loop-i-test.true c.row_at.ensures.is (rw c.width-own.ensures at c.ones-bits.ensures) (rw (c.width-own.ensures, c.missing.ensures.is) at c.with_gap.ensures))
