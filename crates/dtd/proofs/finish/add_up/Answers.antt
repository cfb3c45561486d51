-- The types passed have few children, and v is the sum of their privileges. Assumes nothing.
use Rattle.std.proofs.Common.{◌≡◌, ◌≤◌, ◌∙◌, subst, arith}
use Rattle.table.specs.Words.{types, count_at}
use Rattle.table.specs.Privilege.{privileges_at}
use Rattle.dtd.specs.Steps.Last.{Few}
use Rattle.dtd.proofs.Finishing.{sum_few, running_few, sum_step, sum_none, sum_all, few_more}
use Rattle.dtd.proofs.finish.add_up.Goals as goal

pub loop-t-init : goal.loop-t-init
loop-t-init c = record { sum_is = sum_none (privileges_at c.args.words.now); few = λ j h. absurd (omega arith) }

pub overflow_add-v : goal.overflow_add-v
overflow_add-v c = let few = c.loop-t.invariant.few in
    let ws = c.args.words.now in
    omega (arith, sum_few ws c.loop-t.t few, running_few ws c.loop-t.t few)

pub loop-t-preserved : goal.loop-t-preserved
loop-t-preserved c = let ws = c.args.words.now in
    let n : count_at ws c.loop-t.t ≤ 16 = omega arith in
    record {
      sum_is = sum_step (privileges_at ws) c.loop-t.t c.loop-t.v c.privileges_at-v.result c.loop-t.invariant.sum_is c.privileges_at-v.ensures.is;
      few = few_more ws c.loop-t.t c.loop-t.invariant.few n;
    }

pub returns : goal.returns
returns c = let ws = c.args.words.now in
    let e : c.loop-t.t ≡ types ws = omega arith in
    (c.loop-t.invariant.sum_is ∙ sum_all ws c.loop-t.t e, subst (Few ws) e c.loop-t.invariant.few)
