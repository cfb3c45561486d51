-- The loop keeps that the names of the declarations so far are entered, and the rest is left. Assumes nothing.
use Rattle.std.proofs.Common.{sym, ◌∙◌, add-one, arith, length-set}
use Rattle.names.proofs.Gone.{gone_start, gone_step, gone_more, gone_all}
use Rattle.labels.proofs.Bookings.{booking_start}
use Rattle.labels.proofs.Turns.{booking_declared}
use Rattle.labels.proofs.entering.enter_declared.Goals as goal

pub loop-name-init : goal.loop-name-init
loop-name-init c = let a = c.args.starts.now in
    (omega arith, omega arith, c.told-names, length-set a 0 0 ∙ c.told-starts, λ ds x s h. (gone_start x, booking_start a (omega (arith, c.told-starts))))

pub loop-name-preserved : goal.loop-name-preserved
loop-name-preserved c = let x = c.in-Some.ensures in
    let b = c.place_behind-at.ensures in
    let n = c.name_end.ensures in
    let q = c.part.ensures in
    let p = c.enter.ensures in (
      b.inside x.moved.1,
      omega (arith, c.loop-name.invariant.1, x.moved.0, b.from),
      p.names_kept ∙ c.loop-name.invariant.2,
      p.starts_kept ∙ c.loop-name.invariant.3,
      λ ds y short few.
          (let g = c.loop-name.invariant.4 ds y short few in
          let s = gone_step g.0 x in
          rw (add-one c.loop-name.count) (gone_more s b, booking_declared short few s n q p g.1)),
    )

pub returns : goal.returns
returns c = let x = c.in_default.ensures in
    record {
      names_kept = c.loop-name.invariant.2 ∙ sym c.told-names;
      starts_kept = c.loop-name.invariant.3 ∙ sym c.told-starts;
      of = λ ds y short few. (let g = c.loop-name.invariant.4 ds y short few in
          (gone_all g.0 x, g.1));
    }
