-- The loop has put the numbers passed. Assumes nothing.
use Rattle.std.proofs.Common.{arith}
use Rattle.lines.proofs.Spaced.{spaced_start, spaced_room, spaced_more}
use Rattle.lines.proofs.put_numbers.Goals as goal

pub loop-n-init : goal.loop-n-init
loop-n-init c = spaced_start

pub put_spaced-end-requires : goal.put_spaced-end-requires
put_spaced-end-requires c = omega (arith, spaced_room c.loop-n.invariant)

pub loop-n-preserved : goal.loop-n-preserved
loop-n-preserved c = spaced_more c.requires c.loop-n-test.true c.loop-n.invariant c.put_spaced-end.ensures
