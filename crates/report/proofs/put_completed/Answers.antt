-- A policy is refused by completion only where it has none. Assumes nothing.
use Rattle.std.proofs.Common.{[], refl, arith, length, take, length-take-le}
use Rattle.lines.proofs.Spaced.{line_length}
use Rattle.report.specs.Report.{CompleteLine, complete_word, none_words}
use Rattle.lines.specs.Text.{line}
use Rattle.report.proofs.Results.{few, completed, none_completed, completed_raisable}
use Rattle.report.proofs.put_completed.Goals as goal

pub put_line-requires : goal.put_line-requires
put_line-requires c = let most = few c.requires.0 in (
  omega (arith, length-take-le (length c.args.marks.now) c.complete.new.out (omega arith)),
  completed_raisable c.requires.0 (completed c.requires.0 refl c.in-Ok.ensures refl),
)

pub returns-in-Ok : goal.returns-in-Ok
returns-in-Ok c = let after = c.complete.new.out in
    let n = length c.args.marks.now in
    let most = few c.requires.0 in
    record {
      text = line complete_word [] (take n after);
      is = CompleteLine.given (completed c.requires.0 refl c.in-Ok.ensures refl) refl;
      puts = c.put_line.ensures;
      few = omega (arith, line_length complete_word [] (take n after), length-take-le n after (omega arith));
    }

pub returns-in-Err : goal.returns-in-Err
returns-in-Err c = record {
  text = line none_words [] [];
  is = CompleteLine.none (none_completed c.requires.0 refl _ c.in-Err.ensures) refl;
  puts = c.put_line-in-Err.ensures;
  few = omega (arith, line_length none_words [] []);
}
