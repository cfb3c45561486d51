-- The loop passes the types that come new, one after another, and adds what is forbidden of their own. Assumes nothing.
use Prim.Native.Nat.{◌-◌}
use Rattle.editing.proofs.Grown.{Growing}
use Rattle.editing.proofs.growing.grow.Given as goal

abbrev pub invariant-loop-head : goal.invariant-loop-head
invariant-loop-head l = Growing l.words l.marks l.y l.flags l.list l.tally l.head l.n

abbrev pub decreases-loop-head : goal.decreases-loop-head
decreases-loop-head l = 256 - l.head
