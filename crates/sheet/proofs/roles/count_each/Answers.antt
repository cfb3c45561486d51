-- The roles before the loop's are counted. Assumes nothing.
use Rattle.std.proofs.Common.{◌+◌, ◌*◌, ◌≤◌, ◌<◌, arith, length, length-take, length-drop}
use Rattle.policy.proofs.Stretches.{stretch_within}
use Rattle.sheet.proofs.Counting.{counted_start, figures_room, counts_room, counted_part}
use Rattle.sheet.proofs.roles.count_each.Goals as goal

pub loop-r-init : goal.loop-r-init
loop-r-init c = rw (c.no_figures-figures.ensures, c.requires.4, c.requires.2) (counted_start _ _)

pub count_role-figures-requires : goal.count_role-figures-requires
count_role-figures-requires c = let inside : c.loop-r.r * c.args.v + c.args.v ≤ length c.args.marks.now = omega (arith, stretch_within c.loop-r.r c.args.roles c.args.v c.loop-r-test.true, c.requires.3) in
    let pre = c.requires in
    let few : c.loop-r.r < 4294967295 = omega (arith, c.loop-r-test.true) in (
      pre.0,
      pre.1,
      simp (length-take, length-drop) (omega (arith, inside, pre.2)),
      c.loop-r.invariant.size,
      figures_room c.loop-r.invariant few,
      counts_room c.loop-r.invariant few,
    )

pub loop-r-preserved : goal.loop-r-preserved
loop-r-preserved c = counted_part c.loop-r.invariant c.args.v c.requires.2 c.count_role-figures.ensures
