-- By each bit. Assumes nothing.
use Rattle.pairs.proofs.Picks.{changed_picked}
use Rattle.pairs.proofs.changes.changed.Goals as goal

pub returns : goal.returns
returns c = let a = c.args in
    let l = c.ranges in
    changed_picked a.allowed a.forbidden a.proposed_allowed a.proposed_forbidden l.allowed.fits l.forbidden.fits l.proposed_allowed.fits l.proposed_forbidden.fits
