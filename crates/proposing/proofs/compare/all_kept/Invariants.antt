-- The flag tells of the marks passed. Assumes nothing.
use Rattle.std.proofs.Common.{ℕ, ◌<◌, length}
use Rattle.table.specs.Steps.Found.{Tells}
use Rattle.proposing.specs.Proposals.{Kept}
use Rattle.proposing.proofs.compare.all_kept.Given as goal

abbrev pub invariant-loop-old : goal.invariant-loop-old
invariant-loop-old l = Tells ((k : ℕ) → k < length l.yielded → Kept l.marks l.proposed k) l.kept
