-- The loop has the leaders of the privileges passed, and the bar that the next must reach. Assumes nothing.
use Rattle.std.proofs.Common.{◌≡◌, length, min, ◌/◌, ◌∙◌, arith}
use Rattle.leaders.specs.Leaders.{often_of}
use Rattle.leaders.proofs.Entering.{leaders_stay, bar_stays}
use Rattle.leaders.proofs.leaders_of.Goals as goal
use Rattle.leaders.proofs.leaders_of.Goals.{then-bar-from, else-bar-from}

pub loop-p-preserved : goal.loop-p-preserved
loop-p-preserved c = let often : c.from.result ≡ often_of c.args.counts.now c.loop-p.p = c.from.ensures ∙ c.often_at.ensures in
    elim c.if-bar-from.branch [
      | then-bar-from w ↦ (rw w.at-is w.entered-next.ensures, rw (w.at-is, w.bar-is) w.bar_at-bar.ensures)
      | else-bar-from w ↦ (
        rw w.at-is (leaders_stay c.loop-p.invariant.1 c.loop-p.invariant.0 (omega (arith, w.if-bar-from.false))),
        rw (w.at-is, w.bar-is) (bar_stays c.loop-p.invariant.1 (omega (arith, w.if-bar-from.false))),
      )
    ]

pub returns : goal.returns
returns c = let end : c.loop-p.p ≡ length c.args.counts.now / 3 = omega arith in
    let few : min 3 c.loop-p.p ≡ c.min.result = omega arith in
    rw (← end) (rw few at c.loop-p.invariant.0)
