-- Where the flag is not up nothing below is forbidden, so nothing is broken there. Assumes nothing.
use Rattle.std.proofs.Common.{arith}
use Rattle.table.proofs.Facts.{facts}
use Rattle.broken.proofs.Asking.{unflagged_none}
use Rattle.broken.proofs.add_spoilt.Goals as goal

pub bounds-flags-x : goal.bounds-flags-x
bounds-flags-x c = let pre = c.requires in omega (arith, pre.1, (facts pre.0.accepted).few)

pub returns-then-flags-x-ne1 : goal.returns-then-flags-x-ne1
returns-then-flags-x-ne1 c = let pre = c.requires in
    unflagged_none c.args.flags.now c.args.known pre.0.accepted pre.1 pre.3 c.if-flags-x-ne1.true
