-- Each turn takes what the rule takes next, and one mark less is allowed. Assumes nothing.
use Rattle.table.specs.Privilege.{privileges}
use Rattle.mending.proofs.Counting.{allowed_in}
use Rattle.mending.proofs.Staying.{Mending}
use Rattle.mending.proofs.mend_types.mend_renewed.Given as goal

abbrev pub invariant-loop-p : goal.invariant-loop-p
invariant-loop-p l = Mending l.words l.flags l.x l.initial.m l.m l.count

abbrev pub decreases-loop-p : goal.decreases-loop-p
decreases-loop-p l = allowed_in l.m (privileges l.words)
