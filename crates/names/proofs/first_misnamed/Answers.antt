-- The loop keeps that no name of the declarations so far is misnamed, and the rest is left.
use Rattle.std.proofs.Common.{add-one, arith}
use Rattle.names.proofs.Gone.{gone_start, gone_step, gone_more, gone_all}
use Rattle.names.proofs.Wrongs.{counted, right_start, right_more, right_found, right_all}
use Rattle.names.proofs.first_misnamed.Goals as goal

pub loop-declared-init : goal.loop-declared-init
loop-declared-init c = (omega arith, omega arith, λ ds x k. (gone_start x, right_start))

pub returns-in-Some-first_wrong : goal.returns-in-Some-first_wrong
returns-in-Some-first_wrong c = record {
  of = λ ds y size few listed. (let k = counted size few listed in
      let g = c.loop-declared.invariant.2 ds y k in
      right_found (gone_step g.0 c.in-Some.ensures) g.1 k c.in-Some-first_wrong.ensures);
}

pub loop-declared-preserved : goal.loop-declared-preserved
loop-declared-preserved c = let x = c.in-Some.ensures in
    let b = c.place_behind-at.ensures in (
      b.inside x.moved.1,
      omega (arith, c.loop-declared.invariant.1, x.moved.0, b.from),
      λ ds y k.
          (let g = c.loop-declared.invariant.2 ds y k in
          let s = gone_step g.0 x in
          rw (add-one c.loop-declared.m) (gone_more s b, right_more s g.1 k c.in_default-first_wrong.ensures)),
    )

pub returns : goal.returns
returns c = record {
  of = λ ds y size few listed. (let g = c.loop-declared.invariant.2 ds y (counted size few listed) in
      right_all (gone_all g.0 c.in_default.ensures) g.1);
}
