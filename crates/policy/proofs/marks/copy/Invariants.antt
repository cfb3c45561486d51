-- The loop has copied the marks passed. Assumes nothing.
use Rattle.std.proofs.Common.{ℕ, ◌<◌, ◌≡◌, length, get_or}
use Rattle.policy.proofs.marks.copy.Given as goal

abbrev pub invariant-loop-p : goal.invariant-loop-p
invariant-loop-p l = (length l.m ≡ length l.marks) × ((j : ℕ) → j < l.p → get_or l.m j 0 ≡ get_or l.marks j 0)
