-- The loop has decided the marks up to p. Assumes nothing.
use Rattle.std.proofs.Common.{◌≡◌, true, ◌⊎◌, ◌<◌}
use Rattle.policy.specs.Marks.{Allowed}
use Rattle.policy.specs.Steps.Writing.{RangeWritten}
use Rattle.completion.proofs.write.write_range.Given as goal

abbrev pub invariant-loop-p : goal.invariant-loop-p
invariant-loop-p l = RangeWritten (λ q. (l.all ≡ true) ⊎ Allowed l.initial.m q) l.from l.p l.initial.m l.m × (l.until < l.from → l.p ≡ l.from)
