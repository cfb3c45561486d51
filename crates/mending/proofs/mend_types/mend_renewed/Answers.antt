-- Each turn takes what the rule takes next, and one mark less is allowed. Assumes nothing.
use Rattle.std.proofs.Common.{arith}
use Rattle.mending.specs.Steps.Taking.{start}
use Rattle.mending.proofs.Staying.{next_within, next_less, mending_take, mending_few}
use Rattle.mending.proofs.mend_types.mend_renewed.Goals as goal

pub loop-p-init : goal.loop-p-init
loop-p-init c = let v = c.requires.0 in
    record { follows = start; policy = v.policy; spoilt = v.spoilt; clean = v.clean }

pub star_taken-requires : goal.star_taken-requires
star_taken-requires c = let pre = c.requires in
    let v = pre.0 in
    let h = c.loop-p.invariant in
    (record { policy = h.policy; spoilt = h.spoilt; type = v.type; clean = h.clean; kids_are = v.kids_are; numbered = v.numbered }, pre.1)

pub returns : goal.returns
returns c = let h = c.loop-p.invariant in
    record { follows = h.follows; policy = h.policy; spoilt = h.spoilt; clean = c.in_default.ensures }

pub bounds-m-p : goal.bounds-m-p
bounds-m-p c = next_within c.loop-p.invariant c.in-Some.ensures

pub overflow_add-count : goal.overflow_add-count
overflow_add-count c = omega (arith, mending_few c.loop-p.invariant)

pub loop-p-smaller : goal.loop-p-smaller
loop-p-smaller c = next_less c.loop-p.invariant c.in-Some.ensures

pub loop-p-preserved : goal.loop-p-preserved
loop-p-preserved c = mending_take c.loop-p.invariant c.in-Some.ensures
