-- The loop stands at a type whose privileges do not all end at or before p, unless it goes on. Assumes nothing.
use mathlib.Core.Path.{◌≡◌}
use Prim.Native.Nat.{◌+◌, ◌-◌, ◌≤◌, ◌<◌}
use Rattle.table.specs.Words.{types}
use Rattle.table.specs.Privilege.{first_privilege}
use Rattle.editing.proofs.above.type_of.Given as goal

abbrev pub invariant-loop-next : goal.invariant-loop-next
invariant-loop-next l = (l.x < types l.words) × (l.next ≡ first_privilege l.words (l.x + 1)) × (first_privilege l.words l.x ≤ l.p)

abbrev pub decreases-loop-next : goal.decreases-loop-next
decreases-loop-next l = types l.words - l.x
