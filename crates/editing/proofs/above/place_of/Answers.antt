-- The loop has not passed the place of x. Assumes nothing.
use Rattle.std.proofs.Common.{arith}
use Rattle.table.proofs.Facts.{facts}
use Rattle.editing.proofs.above.place_of.Goals as goal

pub loop-k-init : goal.loop-k-init
loop-k-init c = let at = c.requires.1.every c.args.x c.requires.2 in
    let some = (facts c.requires.0).some in
    (omega (arith, c.types-k.ensures.is), (at.0, omega (arith, c.types-k.ensures.is, at.1), at.2))
