-- By whether the exchange is forbidden. Assumes nothing.
use Rattle.std.proofs.Common.{refl, ◌∙◌, arith}
use Rattle.policy.specs.Renewed.{Barred}
use Rattle.policy.proofs.Renewals.{barred_out, barred_into}
use Rattle.table.proofs.Facts.{facts, has_children}
use Rattle.table.proofs.Privileges.{exchange_in_lem}
use Rattle.verdict.specs.Steps.Breakers.{exchange, star}
use Rattle.verdict.proofs.Breakers.{unbarred}
use Rattle.verdict.proofs.breaches.star_breaker.Goals as goal

pub returns-in-Barred : goal.returns-in-Barred
returns-in-Barred c = let p = c.requires in
    exchange refl (barred_out p.1 p.2 c.in-Barred.ensures) (c.exchange.ensures ∙ exchange_in_lem p.1)

pub child_at-requires : goal.child_at-requires
child_at-requires c = let p = c.requires in has_children p.0.accepted p.2.type

pub returns : goal.returns
returns c = let p = c.requires in
    let f = facts p.0.accepted in
    let free : ¬ Barred c.args.words.now c.args.marks.now c.args.x = λ b. unbarred c.renewal_of.result c.renewal_of.ensures c.in_default.not-Barred (barred_into p.1 b) in
    star {y = c.child_at.result} refl free (rw c.child_at.ensures (f.child_inside c.args.x 0 p.2.type (omega (arith, f.star_one c.args.x p.2)))) c.child_at.ensures
