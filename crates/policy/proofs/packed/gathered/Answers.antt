-- The mask leaves the lowest bits, and the multiplication puts them side by side. Assumes nothing.
use Rattle.policy.proofs.Packing.{gathers}
use Rattle.policy.proofs.packed.gathered.Goals as goal

pub returns : goal.returns
returns c = gathers c.args.eight
