-- The loop has passed no lower lead, and there is one. Assumes nothing.
use Rattle.policy.proofs.SquareLaws.{told_marked}
use Rattle.mending.proofs.taking.lowest_lead.Goals as goal

pub loop-n-init : goal.loop-n-init
loop-n-init c = λ l h lead.
    let can = lead.step.can in
    let may = (told_marked c.requires.3 c.args.i l can.from can.to lead.step).is in
    c.first_shared-k.ensures.free l h (may, may)
