-- There is room, the byte behind the word ends it, and the word is the same. Assumes nothing.
use Rattle.std.proofs.Common.{rules}
use Rattle.reading.proofs.Standing.{ended_stands, other_stop, other_bytes}
use Rattle.reading.proofs.matching.after.Goals as goal
use Rattle.reading.proofs.matching.after.Goals.{else-l-end-via-then-l-end+else-is_same, else-l-end-via-else-l-end}

pub returns-then-is_same : goal.returns-then-is_same
returns-then-is_same c = ended_stands c.args.word.now c.args.stop c.if-l-at.false c.if-l-end.true (search rules)

pub returns-else-l-end : goal.returns-else-l-end
returns-else-l-end c = let a = c.args in
    elim c.else-l-end.branch [
      | else-l-end-via-then-l-end+else-is_same x ↦ other_bytes a.word.now a.stop (search rules)
      | else-l-end-via-else-l-end x ↦ other_stop a.word.now a.stop x.if-l-end.false
    ]
