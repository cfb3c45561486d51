-- None of the labels passed stands there. Assumes nothing.
use Rattle.std.proofs.Common.{get_or}
use Rattle.labels.specs.Steps.Booked.{label_in}
use Rattle.reading.specs.Steps.Matching.{ended}
use Rattle.reading.proofs.Standing.{Unsought}
use Rattle.reading.proofs.matching.find_kid.Given as goal

abbrev pub invariant-loop-k : goal.invariant-loop-k
invariant-loop-k loop = Unsought (λ z. ended (label_in loop.labels.names.now loop.labels.starts.now (get_or loop.kids z 0)) loop.stop) loop.l loop.at 0 loop.k
