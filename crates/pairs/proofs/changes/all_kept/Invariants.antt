-- The flag tells of the bytes passed. Assumes nothing.
use Rattle.std.proofs.Common.{ℕ, ◌<◌}
use Rattle.table.specs.Steps.Found.{Tells}
use Rattle.pairs.specs.Maps.{maps}
use Rattle.pairs.specs.Steps.Changing.{OtherAt}
use Rattle.pairs.proofs.changes.all_kept.Given as goal

abbrev pub invariant-loop-k : goal.invariant-loop-k
invariant-loop-k l = Tells ((i : ℕ) → i < l.k → (j : ℕ) → j < 8 → ¬ OtherAt (maps l.allowed l.forbidden) (maps l.proposed_allowed l.proposed_forbidden) i j) l.kept
