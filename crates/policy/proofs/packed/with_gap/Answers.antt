-- The shifted bits are powers of two, and the bits of the row's own with a gap fit in 16. Assumes nothing.
use Rattle.std.proofs.Common.{arith}
use Rattle.policy.proofs.Bits.{shifted}
use Rattle.policy.proofs.Packing.{gap_fits, gap_opens}
use Rattle.policy.proofs.packed.with_gap.Goals as goal

pub overflow_cast-result : goal.overflow_cast-result
overflow_cast-result c = rw (shifted 64 c.args.width (omega arith), shifted 64 c.args.i (omega arith))
    (omega (arith, gap_fits c.args.width c.args.i c.args.bits c.requires.0 c.requires.2))

pub returns : goal.returns
returns c = rw (shifted 64 c.args.width (omega arith), shifted 64 c.args.i (omega arith))
    (gap_opens c.args.width c.args.i c.args.bits (gap_fits c.args.width c.args.i c.args.bits c.requires.0 c.requires.2))
