-- The flags of the types passed are right. Assumes nothing.
use Rattle.std.proofs.Common.{ℕ, ◌≡◌, ◌≤◌, ◌<◌, length, get_or}
use Rattle.verdict.specs.Steps.Spoils.{Flag}
use Rattle.verdict.specs.Kept.{KeptBelow}
use Rattle.verdict.proofs.kept.flag_kept.Given as goal

abbrev pub invariant-loop-t : goal.invariant-loop-t
invariant-loop-t l = (length l.flags ≡ 256) × ((j : ℕ) → j < l.t → Flag (KeptBelow l.kept j) (get_or l.flags j 0)) × ((j : ℕ) → l.e ≤ j → get_or l.flags j 0 ≡ get_or l.initial.flags j 0)
