-- Each turn takes what the rule takes next, moves its bit from one square to the other, and one mark less is allowed. Assumes nothing.
use Rattle.table.specs.Privilege.{privileges}
use Rattle.policy.specs.Steps.Squares.{Read}
use Rattle.mending.proofs.Counting.{allowed_in}
use Rattle.mending.proofs.Staying.{Mending}
use Rattle.mending.proofs.mend_types.mend_choice.Given as goal

abbrev pub invariant-loop-i : goal.invariant-loop-i
invariant-loop-i l = Mending l.words l.flags l.x l.initial.m l.m l.count × Read l.m l.n l.allowed l.forbidden

abbrev pub decreases-loop-i : goal.decreases-loop-i
decreases-loop-i l = allowed_in l.m (privileges l.words)
