-- The stretch of the type's privileges is counted. Assumes nothing.
use Rattle.std.proofs.Common.{◌∙◌, arith}
use Rattle.table.proofs.Facts.{facts, has_record}
use Rattle.verdict.proofs.Spoils.{own_here}
use Rattle.editing.proofs.Grown.{own_tallied}
use Rattle.editing.proofs.growing.own_tally.Goals as goal

pub bounds-firsts-t : goal.bounds-firsts-t
bounds-firsts-t c = omega (arith, c.requires.2, (facts c.requires.0.accepted).few)

pub privileges_at-requires : goal.privileges_at-requires
privileges_at-requires c = has_record c.requires.0.accepted c.requires.2

pub add_stretch-requires : goal.add_stretch-requires
add_stretch-requires c = let own = own_here c.requires.0 c.requires.2 (c.from-from.ensures ∙ c.requires.1.each c.args.t c.requires.2) c.privileges_at.ensures.is in
    (omega arith, own.inside, own.low, omega arith)

pub returns : goal.returns
returns c = own_tallied c.requires.2 (c.from-from.ensures ∙ c.requires.1.each c.args.t c.requires.2) c.privileges_at.ensures.is c.add_stretch.ensures
