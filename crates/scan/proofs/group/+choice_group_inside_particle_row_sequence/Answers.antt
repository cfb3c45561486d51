-- The readers of particles, one for each of them. Assumes nothing.
use Rattle.std.proofs.Common.{◌-◌, [], ◌∷◌, Ok, Err, arith, add-one}
use Rattle.scan.specs.Steps.Claims.{first, behind}
use Rattle.scan.specs.Steps.Moves.{got}
use Rattle.scan.proofs.Agreeing.{span_le}
use Rattle.scan.proofs.Moving.{moves_on, reads_on}
use Rattle.scan.proofs.Told.{yes_told, no_told}
use Rattle.scan.proofs.Readings.{reads_moves, reads_refused, marked, named_reads, group_reads, deep_reads, inside_reads, choice_reads, sequence_reads, row_starts, row_on, row_refused, row_ends}
use Rattle.scan.proofs.group.+choice_group_inside_particle_row_sequence.Goals as goal

pub group-returns : goal.group-returns
group-returns t c = λ fs.
    (let m = reads_moves (c.in_ok-e.ensures fs) in
    got (moves_on m (marked fs m.inside c.mark.ensures)))

pub group-returns-in_err-e : goal.group-returns-in_err-e
group-returns-in_err-e t c = λ fs. reads_refused c.from_residual.result c.from_residual.ensures.1 (c.in_err-e.ensures fs)

pub inside-blanks-b-requires : goal.inside-blanks-b-requires
inside-blanks-b-requires t c = (reads_moves (c.in_ok-e.ensures [])).inside

pub inside-choice-requires : goal.inside-choice-requires
inside-choice-requires t c =
    let m = reads_moves (c.in_ok-e.ensures []) in
    let s = c.blanks-b.ensures in
    (omega (arith, c.decreases, m.from, span_le s.blanks, s.inside), s.inside)

pub inside-returns-then-is : goal.inside-returns-then-is
inside-returns-then-is t c = λ fs.
    (let a = c.args in
    let m = reads_moves (c.in_ok-e.ensures (first a.depth ∷ fs)) in
    choice_reads fs a.depth c.requires m c.blanks-b.ensures c.if-is.ensures (c.choice.ensures fs))

pub inside-sequence-requires : goal.inside-sequence-requires
inside-sequence-requires t c =
    let m = reads_moves (c.in_ok-e.ensures []) in
    let s = c.blanks-b.ensures in
    (omega (arith, c.decreases, m.from, span_le s.blanks, s.inside), s.inside)

pub inside-returns : goal.inside-returns
inside-returns t c = λ fs.
    (let a = c.args in
    let m = reads_moves (c.in_ok-e.ensures (first a.depth ∷ fs)) in
    sequence_reads fs a.depth c.requires m c.blanks-b.ensures c.if-is.ensures (c.sequence.ensures fs))

pub inside-returns-in_err-e : goal.inside-returns-in_err-e
inside-returns-in_err-e t c = λ fs.
    (let a = c.args in
    reads_refused c.from_residual.result c.from_residual.ensures.1 (inside_reads fs a.depth c.requires (c.in_err-e.ensures (first a.depth ∷ fs))))

pub particle-returns-then-depth-eq0 : goal.particle-returns-then-depth-eq0
particle-returns-then-depth-eq0 t c = λ fs. deep_reads fs c.args.depth c.if-depth-eq0.true c.if-is.ensures

pub particle-group-requires : goal.particle-group-requires
particle-group-requires t c =
    let s = c.blanks.ensures in
    (omega (arith, c.decreases, span_le s.blanks, s.inside, c.if-is.ensures.within), s.inside)

pub particle-returns-then-is : goal.particle-returns-then-is
particle-returns-then-is t c = λ fs.
    (let a = c.args in
    group_reads fs a.depth (a.depth - 1) (omega arith) c.if-is.ensures (rw (add-one a.at) at c.blanks.ensures) (c.group.ensures fs))

pub particle-returns : goal.particle-returns
particle-returns t c = λ fs.
    (let m = reads_moves (named_reads fs c.args.depth c.requires c.if-is.ensures (Ok _) c.in_ok-e.ensures) in
    got (moves_on m (marked fs m.inside c.mark.ensures)))

pub particle-returns-in_err-e : goal.particle-returns-in_err-e
particle-returns-in_err-e t c = λ fs.
    reads_refused c.from_residual.result c.from_residual.ensures.1 (named_reads fs c.args.depth c.requires c.if-is.ensures (Err _) c.in_err-e.ensures)

pub row-loop-i-init : goal.row-loop-i-init
row-loop-i-init t c = (omega arith, c.requires.0, λ fs. row_starts fs c.requires.1 c.args.depth c.requires.0)

pub row-particle-requires : goal.row-particle-requires
row-particle-requires t c =
    let s = c.blanks.ensures in
    (omega (arith, c.decreases, c.loop-i.invariant.0, span_le s.blanks, s.inside), s.inside)

pub row-blanks-i-requires : goal.row-blanks-i-requires
row-blanks-i-requires t c = (reads_moves (c.in_ok-e.ensures [])).inside

pub row-loop-i-smaller : goal.row-loop-i-smaller
row-loop-i-smaller t c =
    let m = reads_moves (c.in_ok-e.ensures []) in
    let s = c.blanks.ensures in
    omega (arith, m.from, span_le s.blanks, span_le c.blanks-i.ensures.blanks, c.blanks-i.ensures.inside)

pub row-loop-i-preserved : goal.row-loop-i-preserved
row-loop-i-preserved t c =
    let s = c.blanks.ensures in
    let l = c.loop-i in
    let a = c.args in
    let m = reads_moves (c.in_ok-e.ensures []) in
    let e = c.blanks-i.ensures in (
      omega (arith, l.invariant.0, m.from, span_le s.blanks, span_le e.blanks),
      e.inside,
      λ fs. moves_on (l.invariant.2 fs) (row_on fs c.requires.1 a.depth (yes_told c.is.ensures c.loop-i-test.true) (rw (add-one l.i) at s)
          (reads_moves (c.in_ok-e.ensures (behind a.separator c.requires.1 a.depth ∷ fs))) e),
    )

pub row-returns-in_err-e : goal.row-returns-in_err-e
row-returns-in_err-e t c = λ fs.
    (let s = c.blanks.ensures in
    let l = c.loop-i in
    let a = c.args in
    reads_refused c.from_residual.result c.from_residual.ensures.1
    (reads_on (l.invariant.2 fs) (row_refused fs c.requires.1 a.depth (yes_told c.is.ensures c.loop-i-test.true) (rw (add-one l.i) at s)
    (c.in_err-e.ensures (behind a.separator c.requires.1 a.depth ∷ fs)))))

pub row-returns : goal.row-returns
row-returns t c = λ fs.
    (let l = c.loop-i in
    reads_on (l.invariant.2 fs) (row_ends fs c.requires.1 c.args.depth l.invariant.1 (no_told c.is.ensures c.loop-i-test.false) _ c.word.ensures))
