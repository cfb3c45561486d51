-- Nothing is put where there is no mark. Assumes nothing.
use Rattle.std.proofs.Common.{arith, rules}
use Rattle.runs.proofs.Texts.{puts_none, puts_then, puts_as}
use Rattle.lines.proofs.Spaced.{marks_none, marks_some}
use Rattle.lines.proofs.put_marks.Goals as goal

pub returns-then-is_empty : goal.returns-then-is_empty
returns-then-is_empty c = puts_as (marks_none c.args.marks.now (search rules)) puts_none

pub returns : goal.returns
returns c = puts_as (marks_some c.args.marks.now (search rules)) (puts_then (omega arith) c.put-digits.ensures c.put.ensures)
