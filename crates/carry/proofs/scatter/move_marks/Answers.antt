-- The pairs passed are moved. Assumes nothing.
use Rattle.carry.proofs.Scattering.{pairs_more}
use Rattle.carry.proofs.scatter.move_marks.Goals as goal

pub loop-k-preserved : goal.loop-k-preserved
loop-k-preserved c = pairs_more c.args.p c.args.q c.loop-k.k c.loop-k.invariant c.move_mark.ensures
