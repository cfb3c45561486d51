-- A shifted 1 is a power of two. Assumes nothing.
use Rattle.policy.proofs.Bits.{shifted, only_one}
use Rattle.policy.proofs.rows.only.Goals as goal

pub returns : goal.returns
returns c = only_one c.requires (shifted 16 c.args.j c.requires)
