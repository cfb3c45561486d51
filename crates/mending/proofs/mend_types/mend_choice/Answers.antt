-- Each turn takes what the rule takes next, moves its bit from one square to the other, and one mark less is allowed. Assumes nothing.
use Rattle.std.proofs.Common.{arith}
use Rattle.policy.proofs.SquareLaws.{policy_readable}
use Rattle.mending.specs.Steps.Taking.{start}
use Rattle.mending.proofs.Staying.{next_within, next_less, mending_take, mending_few}
use Rattle.mending.proofs.Rows.{read_taken}
use Rattle.mending.proofs.mend_types.mend_choice.Goals as goal

pub read_rows-requires : goal.read_rows-requires
read_rows-requires c = let v = c.requires.0 in
    policy_readable v.policy c.requires.1 v.numbered

pub loop-i-init : goal.loop-i-init
loop-i-init c = let v = c.requires.0 in
    (record { follows = start; policy = v.policy; spoilt = v.spoilt; clean = v.clean }, c.read_rows.ensures)

pub overflow_add-count : goal.overflow_add-count
overflow_add-count c = omega (arith, mending_few c.loop-i.invariant.0)

pub loop-i-smaller : goal.loop-i-smaller
loop-i-smaller c = let told = c.in-Some.ensures in
    rw c.replacement.ensures (next_less c.loop-i.invariant.0 told.1)

pub loop-i-preserved : goal.loop-i-preserved
loop-i-preserved c = let taken = c.in-Some.ensures in
    rw c.replacement.ensures (
      mending_take c.loop-i.invariant.0 taken.1,
      read_taken c.requires.0.numbered.narrow taken.0 (next_within c.loop-i.invariant.0 taken.1) c.loop-i.invariant.1 c.toggle.ensures c.toggle-in-loop-i.ensures,
    )
