-- By each bit. Assumes nothing.
use Rattle.pairs.proofs.Picks.{other_picked}
use Rattle.pairs.proofs.changes.other_changes.Goals as goal

pub returns : goal.returns
returns c = let a = c.args in
    other_picked a.allowed a.forbidden a.proposed_allowed a.proposed_forbidden c.ranges.allowed.fits c.changed.ensures
