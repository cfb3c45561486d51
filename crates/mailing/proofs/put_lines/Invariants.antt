-- The lines of the types passed are put, and `first` is the first privilege of the next. Assumes nothing.
use Rattle.std.proofs.Common.{◌≤◌, ◌≡◌}
use Rattle.table.specs.Words.{types}
use Rattle.table.specs.Privilege.{first_privilege}
use Rattle.labels.specs.Steps.Booked.{label_in}
use Rattle.mailing.specs.Steps.Continuing.{Continues}
use Rattle.mailing.proofs.put_lines.Given as goal

abbrev pub invariant-loop-x : goal.invariant-loop-x
invariant-loop-x l = (l.x ≤ types l.words) × (l.first ≡ first_privilege l.words l.x) × Continues (label_in l.labels.names.now l.labels.starts.now) l.words l.marks 0 l.first l.initial.out 0 l.out l.end
