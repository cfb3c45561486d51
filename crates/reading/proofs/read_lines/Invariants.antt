-- The text before the place reached is the listing of the marks so far. Assumes nothing.
use Rattle.std.proofs.Common.{◌-◌, length}
use Rattle.labels.specs.Steps.Booked.{label_in}
use Rattle.reading.proofs.Reached.{Reached}
use Rattle.reading.proofs.read_lines.Given as goal

abbrev pub invariant-loop-at : goal.invariant-loop-at
invariant-loop-at l = Reached (label_in l.labels.names.now l.labels.starts.now) l.words l.listing l.marks l.at l.from l.near

abbrev pub decreases-loop-at : goal.decreases-loop-at
decreases-loop-at l = length l.listing - l.at
