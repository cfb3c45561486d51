-- The loop has passed no entry that does not fit, and knows what they use. Assumes nothing.
use Rattle.table.proofs.Lowest.{passed_start}
use Rattle.carry.proofs.Numbered.{used_start}
use Rattle.carry.proofs.numbers.lowest_off.Goals as goal

pub loop-x-init : goal.loop-x-init
loop-x-init c = record { passed = passed_start; used = used_start _ }
