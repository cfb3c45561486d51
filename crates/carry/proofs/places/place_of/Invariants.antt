-- None of the kids passed is the type. Assumes nothing.
use Rattle.std.proofs.Common.{ℕ, ◌<◌, ◌≢◌, get_or}
use Rattle.carry.proofs.places.place_of.Given as goal

abbrev pub invariant-loop-k : goal.invariant-loop-k
invariant-loop-k l = (z : ℕ) → z < l.k → get_or l.kids z 0 ≢ l.c
