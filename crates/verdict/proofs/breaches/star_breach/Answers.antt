-- By whether the child can be renewed. Assumes nothing.
use Rattle.std.proofs.Common.{refl}
use Rattle.policy.proofs.Renewals.{renewed_out, renewed_into, barred_out, barred_into}
use Rattle.verdict.specs.Breaches.{at_exchange}
use Rattle.verdict.proofs.Breached.{star_closed, star_first}
use Rattle.verdict.proofs.breaches.star_breach.Goals as goal

pub renewed_breach-requires : goal.renewed_breach-requires
renewed_breach-requires c = let pre = c.requires in
    let told = c.in-Open.ensures in
    (pre.0, pre.2, λ b. told.0 (barred_into pre.1 b), renewed_out pre.1 pre.2 told.1)

pub returns-in-Shut : goal.returns-in-Shut
returns-in-Shut c = let pre = c.requires in star_closed _ _ _ _ pre.2 (λ r. c.in-Shut.ensures (renewed_into pre.1 r))

pub returns-in-Barred : goal.returns-in-Barred
returns-in-Barred c = let pre = c.requires in
    rw c.star_spot.ensures (star_first _ _ _ _ pre.2 (at_exchange (barred_out pre.1 pre.2 c.in-Barred.ensures) refl))
