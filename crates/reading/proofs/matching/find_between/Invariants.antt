-- None of the labels passed stands there. Assumes nothing.
use Rattle.labels.specs.Steps.Booked.{label_in}
use Rattle.reading.specs.Steps.Matching.{ended}
use Rattle.reading.proofs.Standing.{Unsought}
use Rattle.reading.proofs.matching.find_between.Given as goal

abbrev pub invariant-loop-x : goal.invariant-loop-x
invariant-loop-x loop = Unsought (λ k. ended (label_in loop.labels.names.now loop.labels.starts.now k) 32) loop.l loop.at loop.from loop.x
