-- A listing at fault and a short result are refused; else the marks are copied. Assumes nothing.
use Rattle.std.proofs.Common.{ℕ, List, ◌++◌, drop, sym, ap, arith, length-take-le}
use Rattle.mail.proofs.Giving.{unset_all, marks_there, short_marks, marks_put}
use Rattle.mail.proofs.read_by.Goals as goal

pub read_lines-requires : goal.read_lines-requires
read_lines-requires c = (c.requires, unset_all 4096)

pub returns-then-out-v : goal.returns-then-out-v
returns-then-out-v c = short_marks c.requires.accepted c.word_at-v.ensures.is c.in_ok-read_lines.ensures c.if-out-v.true

pub slice_bounds-marks-end : goal.slice_bounds-marks-end
slice_bounds-marks-end c = marks_there c.requires.accepted c.word_at-v.ensures.is c.in_ok-read_lines.ensures

pub slice_bounds-copy_from_slice-end-3 : goal.slice_bounds-copy_from_slice-end-3
slice_bounds-copy_from_slice-end-3 c = sym (length-take-le _ _ (marks_there c.requires.accepted c.word_at-v.ensures.is c.in_ok-read_lines.ensures))

pub copy_from_slice-requires : goal.copy_from_slice-requires
copy_from_slice-requires c = let there = marks_there c.requires.accepted c.word_at-v.ensures.is c.in_ok-read_lines.ensures in
    omega (arith, length-take-le _ _ there, length-take-le _ _ c.if-out-v.false)

pub returns : goal.returns
returns c = marks_put c.requires.accepted c.word_at-v.ensures.is c.in_ok-read_lines.ensures c.if-out-v.false
    (ap (λ (m : List ℕ). m ++ drop c.word_at-v.result c.args.out.now) c.copy_from_slice.ensures.after)
