-- The byte that stands there moves the loop on by one; the first that does not is where the word differs.
use Rattle.std.proofs.Common.{suc, Ok, Err, drop, drop_of_length-le, add-one, arith}
use Rattle.std.proofs.Math.Seq.{drop-cons}
use Rattle.grammar.specs.Bytes.{done}
use Rattle.scan.specs.declared.Stop.TheVariants.{Bad}
use Rattle.scan.specs.Steps.Readers.{here}
use Rattle.scan.proofs.Told.{word_more}
use Rattle.scan.proofs.piece.word.Goals as goal

pub returns-then-not-is : goal.returns-then-not-is
returns-then-not-is c = let a = c.args in
    let l = c.loop-b in
    l.invariant.2 (Err (Bad l.i)) (rw (drop-cons a.w.now l.b-index 0 (omega arith)) (here l.invariant.1 c.if-not-is.ensures))

pub loop-b-preserved : goal.loop-b-preserved
loop-b-preserved c = let a = c.args in
    let l = c.loop-b in
    let g = c.if-not-is.ensures in (
      omega arith,
      omega (arith, g.within),
      λ r x. l.invariant.2 r (rw (drop-cons a.w.now l.b-index 0 (omega arith)) (word_more a.s.now (drop (suc l.b-index) a.w.now) _ l.i g r (rw (add-one l.b-index, add-one l.i) at x))),
    )

pub returns : goal.returns
returns c = let a = c.args in
    c.loop-b.invariant.2 (Ok c.loop-b.i) (c.loop-b.invariant.1, rw (drop_of_length-le a.w.now {i = c.loop-b.b-index} (omega arith)) done)
