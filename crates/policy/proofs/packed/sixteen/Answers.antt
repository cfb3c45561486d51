-- The bits of the two eights are two bytes side by side. Assumes nothing.
use Rattle.policy.proofs.Packing.{joins_eights}
use Rattle.policy.proofs.packed.sixteen.Goals as goal

pub returns : goal.returns
returns c = joins_eights c.gathered.ensures c.gathered-2.ensures
