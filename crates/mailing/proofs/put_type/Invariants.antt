-- The lines of the privileges passed are put. Assumes nothing.
use Rattle.std.proofs.Common.{◌≤◌}
use Rattle.labels.specs.Steps.Booked.{label_in}
use Rattle.mailing.specs.Steps.Continuing.{Continues}
use Rattle.mailing.proofs.put_type.Given as goal

abbrev pub invariant-loop-p : goal.invariant-loop-p
invariant-loop-p l = (l.first ≤ l.p) × (l.p ≤ l.until) × Continues (label_in l.labels.names.now l.labels.starts.now) l.words l.marks l.first l.p l.initial.out l.at l.out l.end
