-- The entries of the types passed are written, and what is listed is below the last of them. Assumes nothing.
use Rattle.editing.proofs.Writing.{Writing}
use Rattle.editing.proofs.entries.write_entries.Given as goal

abbrev pub invariant-loop-k : goal.invariant-loop-k
invariant-loop-k l = Writing l.words l.marks l.order l.above l.place l.last l.k l.initial.kept l.kept l.flags l.list l.grown l.y
