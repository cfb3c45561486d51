-- The loop keeps that the declarations so far are counted, their names listed, and the rest is left.
use Rattle.std.proofs.Common.{add-one, arith}
use Rattle.names.proofs.Gone.{gone_start, gone_step, gone_more, gone_all, listed_more}
use Rattle.names.proofs.Entering.{listed_none}
use Rattle.names.proofs.collect.Goals as goal

pub loop-name-init : goal.loop-name-init
loop-name-init c = (omega arith, omega arith, λ ds x l. (gone_start x, λ h. listed_none))

pub loop-name-preserved : goal.loop-name-preserved
loop-name-preserved c = let x = c.in-Some.ensures in
    let b = c.place_behind-at.ensures in
    let p = c.enter.ensures in (
      b.inside x.moved.1,
      omega (arith, c.loop-name.invariant.1, x.moved.0, b.from),
      λ ds y small.
          (let g = c.loop-name.invariant.2 ds y small in
          let s = gone_step g.0 x in
          (rw (add-one c.enter.new.self.count, p.1) (gone_more s b, listed_more small s g.1 p.0))),
    )

pub returns : goal.returns
returns c = record {
  of = λ ds y small. (let g = c.loop-name.invariant.2 ds y small in
      (gone_all g.0 c.in_default.ensures, g.1));
}
