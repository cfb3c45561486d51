-- The bit shifted to its place, and all others as they were. Assumes nothing.
use Rattle.policy.proofs.Bits.{shifted, toggles}
use Rattle.policy.proofs.rows.toggle.Goals as goal

pub returns : goal.returns
returns c = rw (shifted 16 c.args.k c.requires.1) (toggles c.args.rows.now c.args.i c.args.k c.told-rows c.requires.0)
