-- The shifted bit is a power of two. Assumes nothing.
use Rattle.policy.proofs.Bits.{shifted}
use Rattle.policy.proofs.Packing.{closes}
use Rattle.policy.proofs.packed.without_gap.Goals as goal

pub returns : goal.returns
returns c = rw (c.from-whole.ensures, shifted 32 c.args.i c.requires) (closes c.args.i c.args.row)
