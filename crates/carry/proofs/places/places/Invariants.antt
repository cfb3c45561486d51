-- The kids passed have their places. Assumes nothing.
use Rattle.std.proofs.Common.{◌≡◌, ℕ, ◌<◌, length, get_or}
use Rattle.carry.specs.Numbers.{new_number}
use Rattle.carry.specs.Steps.Placing.{Place}
use Rattle.carry.proofs.places.places.Given as goal

abbrev pub invariant-loop-i : goal.invariant-loop-i
invariant-loop-i l = record {
  size : length l.at ≡ 16;
  placed : (j : ℕ) → j < l.i → Place l.others l.m (new_number l.numbers (get_or l.kids j 0)) (get_or l.at j 0);
}
