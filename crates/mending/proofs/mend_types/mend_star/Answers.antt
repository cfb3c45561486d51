-- Where the child cannot be renewed there is no breach. Assumes nothing.
use Rattle.table.proofs.Lowest.{told_no}
use Rattle.policy.proofs.Renewals.{renewed_into}
use Rattle.verdict.proofs.Breached.{star_closed}
use Rattle.mending.specs.Steps.Taking.{start}
use Rattle.mending.proofs.Next.{next_none}
use Rattle.mending.proofs.mend_types.mend_star.Goals as goal

pub returns : goal.returns
returns c = let pre = c.requires in
    let v = pre.0 in
    let closed = told_no c.is_renewed.result c.is_renewed.ensures c.if-is_renewed.false in
    record { follows = start; policy = v.policy; spoilt = v.spoilt; clean = next_none v (star_closed _ _ _ _ pre.1 (λ r. closed (renewed_into v.numbered r))) }
