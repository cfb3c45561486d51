-- All marks are one stretch. Assumes nothing.
use native.Mathlib.Omega.{arith}
use Rattle.table.proofs.Facts.{facts}
use Rattle.editing.proofs.Writing.{all_below}
use Rattle.editing.proofs.entries.all_forbidden.Goals as goal

pub add_stretch-requires : goal.add_stretch-requires
add_stretch-requires c = let pol = c.requires in
    (omega arith, omega arith, omega (arith, pol.fit.size, (facts pol.accepted).privileges_few), omega arith)

pub returns : goal.returns
returns c = all_below c.requires c.add_stretch.ensures
