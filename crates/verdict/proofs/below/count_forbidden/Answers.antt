-- The loop has counted the forbidden privileges passed. Assumes nothing.
use Rattle.std.proofs.Common.{◌≡◌, ◌+◌, ◌-◌, ◌<◌, get_or, take, drop, get_or-take, get_or-drop, length-take-le, length-drop, ◌∙◌, sym, add-zero, add_assoc, arith}
use Rattle.table.proofs.HowMany.{many_next, many_skip}
use Rattle.verdict.proofs.Tallies.{range_start}
use Rattle.verdict.proofs.below.count_forbidden.Goals as goal
use Rattle.verdict.proofs.below.count_forbidden.Goals.{then-mark-eq2, else-mark-eq2}

pub loop-mark-init : goal.loop-mark-init
loop-mark-init c = (omega arith, rw add-zero range_start)

pub loop-mark-preserved : goal.loop-mark-preserved
loop-mark-preserved c = let marks = c.args.marks.now in
    let from = c.args.from in
    let k = c.loop-mark.mark-index in
    let inside : k < c.args.until - from = omega (arith, c.loop-mark-test.true, length-take-le (c.args.until - from) (drop from marks) (omega (arith, length-drop from marks))) in
    let read : get_or (take (c.args.until - from) (drop from marks)) k 0 ≡ get_or marks (from + k) 0 = get_or-take (c.args.until - from) (drop from marks) k 0 inside ∙ get_or-drop from marks k 0 in
    elim c.if-mark-eq2.branch [
      | then-mark-eq2 w ↦ (
        omega (arith, w.count-is),
        rw (w.count-is, ← add_assoc from k 1) (many_next c.loop-mark.invariant.1 (record { low = omega arith; high = omega arith; forbidden = sym read ∙ w.if-mark-eq2.true })),
      )
      | else-mark-eq2 w ↦ (
        omega (arith, w.count-is),
        rw (w.count-is, ← add_assoc from k 1) (many_skip c.loop-mark.invariant.1 (λ r. w.if-mark-eq2.false (read ∙ r.forbidden))),
      )
    ]
