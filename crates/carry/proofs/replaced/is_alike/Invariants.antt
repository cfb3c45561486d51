-- The kinds passed have the place that they had. Assumes nothing.
use Rattle.std.proofs.Common.{◌≡◌, ℕ, ◌<◌, get_or}
use Rattle.carry.proofs.replaced.is_alike.Given as goal

abbrev pub invariant-loop-i : goal.invariant-loop-i
invariant-loop-i l = (z : ℕ) → z < l.i → get_or l.at z 0 ≡ z
