-- The flag tells of the bytes passed. Assumes nothing.
use Rattle.std.proofs.Common.{◌≡◌, ℕ, ◌<◌, get_or}
use Rattle.std.specs.Int.Bits.{bit_and}
use Rattle.table.specs.Steps.Found.{Tells}
use Rattle.pairs.proofs.check.none_shared.Given as goal

abbrev pub invariant-loop-k : goal.invariant-loop-k
invariant-loop-k l = Tells ((i : ℕ) → i < l.k → bit_and (get_or l.allowed i 0) (get_or l.forbidden i 0) ≡ 0) l.none
