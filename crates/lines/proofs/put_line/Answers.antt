-- The four parts stand one behind another. Assumes nothing.
use Rattle.std.proofs.Common.{◌++◌, arith, length-append}
use Rattle.lines.specs.Text.{numbers, marks_text}
use Rattle.runs.proofs.Texts.{puts_then, puts_as}
use Rattle.lines.proofs.Decimals.{raised_none}
use Rattle.lines.proofs.Spaced.{one_raisable, numbers_length, marks_length}
use Rattle.lines.proofs.put_line.Goals as goal

pub put_marks-third-requires : goal.put_marks-third-requires
put_marks-third-requires c = let first = puts_as (raised_none c.args.word.now) c.put-first.ensures in
    (omega (arith, first.end, numbers_length c.args.ns.now), c.requires.1)

pub put-requires : goal.put-requires
put-requires c = let first = puts_as (raised_none c.args.word.now) c.put-first.ensures in
    (omega (arith, first.end, numbers_length c.args.ns.now, marks_length c.args.marks.now), one_raisable 10 0 (omega arith))

pub returns : goal.returns
returns c = let word = c.args.word.now in
    let ns = c.args.ns.now in
    let marks = c.args.marks.now in
    let first = puts_as (raised_none word) c.put-first.ensures in
    let second = puts_then (omega (arith, c.requires.0)) first c.put_numbers-second.ensures in
    let third = puts_then (omega (arith, c.requires.0, length-append word (numbers ns), numbers_length ns)) second c.put_marks-third.ensures in
    puts_then
    (omega (arith, c.requires.0, length-append (word ++ numbers ns) (marks_text marks), length-append word (numbers ns), numbers_length ns, marks_length marks))
    third
    c.put.ensures
