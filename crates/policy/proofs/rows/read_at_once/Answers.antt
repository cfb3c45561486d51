-- Sixteen marks are told at once, and the gap is opened at the missing position. Assumes nothing.
use Rattle.std.proofs.Common.{refl}
use Rattle.policy.proofs.RowMarks.{ones_tell, twos_tell, marked_row}
use Rattle.policy.proofs.rows.read_at_once.Goals as goal

pub returns : goal.returns
returns c = let small = c.requires.0.room.small in
    let firsts = c.eight-first.ensures in
    let seconds = c.eight-second.ensures in
    record {
      steps = c.with_gap.result;
      bans = c.with_gap-2.result;
      steps_tell = marked_row small c.requires.1 c.requires.2 (ones_tell firsts) (ones_tell seconds) c.sixteen.ensures (rw (c.width-own.ensures, c.missing-gap.ensures.is) at c.with_gap.ensures);
      bans_tell = marked_row small c.requires.1 c.requires.2 (twos_tell firsts) (twos_tell seconds) c.sixteen-2.ensures (rw (c.width-own.ensures, c.missing-gap.ensures.is) at c.with_gap-2.ensures);
      allowed_is = refl;
      forbidden_is = refl;
    }
