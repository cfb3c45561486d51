-- One case for each way in which a particle and a group are read.
use Rattle.std.proofs.Common.{arith, add-one}
use Rattle.scan.proofs.Agreeing.{span_le}
use Rattle.code.proofs.Particles.{particle_named, particle_group, particle_deep}
use Rattle.code.proofs.Rows.{progress_on, progress_ends, group_choice, group_sequence, group_single, close_le, close_in}
use Rattle.code.proofs.particle.+put_group_put_particle_put_rest.Goals as goal

pub put_group-returns-then-is : goal.put_group-returns-then-is
put_group-returns-then-is t c = group_choice c.put_particle-p.ensures c.blanks-b.ensures c.if-is.ensures c.put_rest.ensures

pub put_group-returns-then-is-2 : goal.put_group-returns-then-is-2
put_group-returns-then-is-2 t c = group_sequence c.put_particle-p.ensures c.blanks-b.ensures c.if-is-2.ensures c.put_rest-then-is-2.ensures

pub put_group-returns : goal.put_group-returns
put_group-returns t c = group_single c.put_particle-p.ensures c.blanks-b.ensures c.if-is.ensures c.if-is-2.ensures c.behind.ensures

pub put_particle-returns-then-depth-eq0 : goal.put_particle-returns-then-depth-eq0
put_particle-returns-then-depth-eq0 t c = particle_deep c.args.depth (omega arith) c.if-is.ensures c.requires

pub put_particle-returns-then-is : goal.put_particle-returns-then-is
put_particle-returns-then-is t c = particle_group (omega arith) c.if-is.ensures (rw (add-one c.args.at) at c.blanks.ensures) c.put_group-g.ensures c.put_mark.ensures

pub put_particle-returns : goal.put_particle-returns
put_particle-returns t c = particle_named c.if-is.ensures c.put_name-n.ensures c.put_mark-2.ensures

pub put_rest-loop-i-smaller : goal.put_rest-loop-i-smaller
put_rest-loop-i-smaller t c =
    let e = c.put_particle-p.ensures.ends in
    let s = c.blanks.ensures in
    let b = c.blanks-i.ensures in
    omega (arith, e.from, span_le s.blanks, span_le b.blanks, b.inside)

pub put_rest-loop-i-preserved : goal.put_rest-loop-i-preserved
put_rest-loop-i-preserved t c =
    let l = c.loop-i in
    let e = c.put_particle-p.ensures.ends in
    let s = c.blanks.ensures in
    let w = c.blanks-i.ensures in (
      omega (arith, l.invariant.0, e.from, span_le s.blanks, span_le w.blanks),
      w.inside,
      omega (arith, l.invariant.2, e.from, span_le s.blanks, span_le w.blanks),
      omega (arith, e.kept, l.invariant.3),
      λ ds k qs f r h. rw (add-one l.n) (progress_on c.requires.1 k c.loop-i-test.ensures (rw (add-one l.i) at s) c.put_particle-p.ensures w (l.invariant.4 ds k qs f r h)),
    )

pub put_rest-returns : goal.put_rest-returns
put_rest-returns t c =
    let l = c.loop-i in
    record {
      ends = record { from = omega (arith, l.invariant.0, close_le c.behind.ensures); inside = close_in c.behind.ensures l.invariant.1; kept = omega (arith, c.insert.ensures.kept, l.invariant.3) };
      of = λ ds k d qs e r s. progress_ends c.requires.1 k c.args.kind d c.loop-i-test.ensures l.invariant.1 c.behind.ensures (omega (arith, c.min.ensures)) c.insert.ensures (l.invariant.4 ds k qs e r s);
    }
