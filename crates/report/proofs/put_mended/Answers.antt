-- A policy is mended. Assumes nothing.
use Rattle.std.proofs.Common.{refl, [], ◌∷◌, arith, length, take, length-take-le}
use Rattle.lines.proofs.Spaced.{line_length}
use Rattle.report.specs.Report.{MendedLine, mended_word}
use Rattle.lines.specs.Text.{line}
use Rattle.report.proofs.Results.{few, mends_it, mended, mended_raisable}
use Rattle.report.proofs.put_mended.Goals as goal

pub unwrap-count-requires : goal.unwrap-count-requires
unwrap-count-requires c = mends_it c.requires.0 refl _ c.mend.ensures

pub put_line-requires : goal.put_line-requires
put_line-requires c = let most = few c.requires.0 in
    let mends = mended c.requires.0 refl (rw c.unwrap-count.ensures at c.mend.ensures) in
    (omega (arith, length-take-le (length c.args.marks.now) c.mend.new.out (omega arith)), mended_raisable c.requires.0 mends)

pub returns : goal.returns
returns c = let after = c.mend.new.out in
    let count = c.unwrap-count.result in
    let n = length c.args.marks.now in
    let most = few c.requires.0 in
    record {
      text = line mended_word (count ∷ []) (take n after);
      is = MendedLine.mended (mended c.requires.0 refl (rw c.unwrap-count.ensures at c.mend.ensures)) refl;
      puts = c.put_line.ensures;
      few = omega (arith, line_length mended_word (count ∷ []) (take n after), length-take-le n after (omega arith));
    }
