-- The front tells which marks are set, place by place. Assumes nothing.
use Rattle.std.proofs.Common.{◌≡◌, ℕ, ◌<◌, get_or}
use Rattle.carry.specs.Steps.Scattering.{set_byte}
use Rattle.carry.proofs.scatter.lose_all.Given as goal

abbrev pub invariant-loop-p : goal.invariant-loop-p
invariant-loop-p l = (j : ℕ) → j < l.p → get_or l.lost j 0 ≡ set_byte (get_or l.marks j 0)
