-- The types below y are flagged, and what is forbidden in them is counted. Assumes nothing.
use Rattle.std.proofs.Common.{refl}
use Rattle.table.proofs.Facts.{accepted_childed}
use Rattle.verdict.proofs.Tallies.{one_inside, tally_flagged}
use Rattle.verdict.proofs.below.forbidden_below.Goals as goal

pub mark_below-requires : goal.mark_below-requires
mark_below-requires c = (accepted_childed c.requires.0.accepted, one_inside c.requires.1, refl)

pub returns : goal.returns
returns c = tally_flagged c.mark_below.ensures c.tally_flagged.ensures
