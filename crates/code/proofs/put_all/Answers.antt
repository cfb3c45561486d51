-- The loop keeps that the declarations so far are in code.
use Rattle.std.proofs.Common.{arith}
use Rattle.code.proofs.Whole.{done_start, done_on, done_all}
use Rattle.code.proofs.put_all.Goals as goal

pub loop-body-init : goal.loop-body-init
loop-body-init c = (omega arith, omega arith, λ ds i k f. done_start ds i f)

pub loop-body-preserved : goal.loop-body-preserved
loop-body-preserved c = let x = c.in-Some.ensures in (
  c.place_behind-at.ensures.inside x.moved.1,
  omega (arith, c.put_content.ensures.kept, c.loop-body.invariant.1),
  λ ds i k f. done_on k x c.put_content.ensures c.place_behind-at.ensures (c.loop-body.invariant.2 ds i k f),
)

pub returns : goal.returns
returns c = record { kept = c.loop-body.invariant.1; of = λ ds i k f. done_all c.in_default.ensures (c.loop-body.invariant.2 ds i k f) }
