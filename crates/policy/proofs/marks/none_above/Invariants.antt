-- The flag tells of the marks passed. Assumes nothing.
use Rattle.std.proofs.Common.{ℕ, ◌<◌, ◌≤◌, get_or}
use Rattle.table.specs.Steps.Found.{Tells}
use Rattle.policy.proofs.marks.none_above.Given as goal

abbrev pub invariant-loop-mark : goal.invariant-loop-mark
invariant-loop-mark l = Tells ((k : ℕ) → k < l.mark-index → get_or l.marks k 0 ≤ l.most) l.none
