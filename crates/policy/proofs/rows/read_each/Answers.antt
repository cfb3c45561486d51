-- The row's own marks are told one by one, and the gap is opened at the missing position. Assumes nothing.
use Rattle.std.proofs.Common.{refl}
use Rattle.policy.proofs.RowMarks.{row_room, own_row_lem}
use Rattle.policy.proofs.rows.read_each.Goals as goal

pub flags_of-flags-requires : goal.flags_of-flags-requires
flags_of-flags-requires c = let pre = c.requires in row_room pre.0 pre.1 pre.2 c.width-own.ensures

pub returns : goal.returns
returns c = let pre = c.requires in
    record {
      steps = c.with_gap.result;
      bans = c.with_gap-2.result;
      steps_tell = own_row_lem pre.0.small pre.1 pre.2 (rw c.width-own.ensures at c.flags_of-flags.ensures.ones) (rw (c.width-own.ensures, c.missing-gap.ensures.is) at c.with_gap.ensures);
      bans_tell = own_row_lem pre.0.small pre.1 pre.2 (rw c.width-own.ensures at c.flags_of-flags.ensures.twos) (rw (c.width-own.ensures, c.missing-gap.ensures.is) at c.with_gap-2.ensures);
      allowed_is = refl;
      forbidden_is = refl;
    }
