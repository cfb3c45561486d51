-- Three lines stand one behind another, or one says why the marks are refused. Assumes nothing.
use Rattle.std.proofs.Common.{refl, [], ◌∷◌, ◌++◌, arith, length-append}
use Rattle.table.specs.Refusals.{number_of, place_of}
use Rattle.table.proofs.Answers.{refusal_not}
use Rattle.lines.specs.Text.{line}
use Rattle.runs.proofs.Texts.{puts_then}
use Rattle.lines.proofs.Spaced.{line_length}
use Rattle.report.specs.Report.{marks_word, verdict_word, answer_line, numbers_of, VerdictLine, refused, judged}
use Rattle.verdict.proofs.Breakers.{verdict_fits}
use Rattle.report.proofs.Numbers.{verdict_length}
use Rattle.report.proofs.Results.{marks_judged, marks_refused}
use Rattle.report.proofs.put_policy.Goals as goal

pub put_verdict-second-requires : goal.put_verdict-second-requires
put_verdict-second-requires c = let good = marks_judged c.requires.0 c.in-Ok.ensures refl in
    let fit = verdict_fits _ _ good.0 good.1 in
    (omega (arith, c.requires.1), fit.few, fit.size)

pub put_completed-third-requires : goal.put_completed-third-requires
put_completed-third-requires c = let good = marks_judged c.requires.0 c.in-Ok.ensures refl in
    let fit = verdict_fits _ _ good.0 good.1 in
    (good.0, omega (arith, c.requires.1, c.put_verdict-second.ensures.end, verdict_length c.in-Ok.breach fit.few))

pub put_mended-requires : goal.put_mended-requires
put_mended-requires c = let good = marks_judged c.requires.0 c.in-Ok.ensures refl in
    let fit = verdict_fits _ _ good.0 good.1 in
    let complete = c.put_completed-third.ensures in (
      good.0,
      omega (arith, c.requires.1, c.put_verdict-second.ensures.end, verdict_length c.in-Ok.breach fit.few, complete.puts.end, complete.few),
    )

pub returns-in-Ok : goal.returns-in-Ok
returns-in-Ok c = let good = marks_judged c.requires.0 c.in-Ok.ensures refl in
    let fit = verdict_fits _ _ good.0 good.1 in
    let verdict = c.put_verdict-second.ensures in
    let complete = c.put_completed-third.ensures in
    let mended = c.put_mended.ensures in
    let second = line verdict_word (numbers_of c.in-Ok.breach) [] in
    let most = verdict_length c.in-Ok.breach fit.few in
    let two = length-append second complete.text in
    let three = length-append (second ++ complete.text) mended.text in
    record {
      text = second ++ complete.text ++ mended.text;
      is = judged good.0 (VerdictLine.judged good.1 refl) complete.is mended.is refl;
      puts = puts_then
          (omega (arith, c.requires.1, two, most, complete.few))
          (puts_then (omega (arith, c.requires.1, most)) verdict complete.puts)
          mended.puts;
      few = omega (arith, three, two, most, complete.few, mended.few);
    }

pub returns-in-Err : goal.returns-in-Err
returns-in-Err c = let r = c.in-Err.refusal in
    record {
      text = answer_line marks_word (number_of r) (place_of r);
      is = refused (marks_refused c.requires.0 c.in-Err.ensures (refusal_not r)) refl;
      puts = rw (c.number.ensures, c.place.ensures) at c.put_answer.ensures;
      few = omega (arith, line_length marks_word (number_of r ∷ place_of r ∷ []) []);
    }
