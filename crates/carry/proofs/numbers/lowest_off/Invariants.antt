-- The loop has passed no entry that does not fit, and knows what they use. Assumes nothing.
use Rattle.std.proofs.Common.{length}
use Rattle.table.proofs.Lowest.{Passed}
use Rattle.carry.specs.Numbers.{EntryFits}
use Rattle.carry.specs.Steps.Using.{UsedBefore}
use Rattle.carry.proofs.numbers.lowest_off.Given as goal

abbrev pub invariant-loop-x : goal.invariant-loop-x
invariant-loop-x l = record {
  passed : Passed (EntryFits l.numbers l.e) (length l.numbers) l.x;
  used : UsedBefore l.numbers l.used l.x;
}
