-- Where the star has a breach, by whether both are allowed. Assumes nothing.
use Rattle.std.proofs.Common.{◌∙◌}
use Rattle.table.proofs.Lowest.{told_yes, told_no}
use Rattle.table.proofs.Privileges.{delete_in_lem, exchange_in_lem}
use Rattle.policy.proofs.Renewals.{both_out, both_into}
use Rattle.mending.specs.Mends.{delete, exchange}
use Rattle.mending.proofs.Next.{next_none, star_next}
use Rattle.mending.proofs.taking.star_taken.Goals as goal

pub returns-in_default : goal.returns-in_default
returns-in_default c = next_none c.requires.0 c.in_default.ensures

pub returns-then-both_allowed : goal.returns-then-both_allowed
returns-then-both_allowed c = let p = c.requires in
    let n = p.0.numbered in
    star_next p.0 c.in-Some.ensures p.1
    (delete (both_out n (told_yes c.both_allowed.result c.both_allowed.ensures c.if-both_allowed.true)) (c.deletion.ensures ∙ delete_in_lem n))

pub returns : goal.returns
returns c = let p = c.requires in
    let n = p.0.numbered in
    star_next p.0 c.in-Some.ensures p.1
    (exchange (λ b. told_no c.both_allowed.result c.both_allowed.ensures c.if-both_allowed.false (both_into n b)) (c.exchange.ensures ∙ exchange_in_lem n))
