-- The loop has done the first r roles. Assumes nothing.
use Rattle.std.proofs.Common.{arith}
use Rattle.roles.proofs.Progress.{upto_next}
use Rattle.roles.proofs.complete_each.Goals as goal

pub loop-r-preserved : goal.loop-r-preserved
loop-r-preserved c = upto_next c.args.v c.requires.2 c.loop-r.invariant (omega arith) (omega arith) c.complete_role.auto.out c.complete_role.ensures
