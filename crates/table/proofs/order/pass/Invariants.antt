-- The loop has passed the first children of the type at the place. Assumes nothing.
use Rattle.table.proofs.Passes.{Passing}
use Rattle.table.proofs.order.pass.Given as goal

abbrev pub invariant-loop-kid : goal.invariant-loop-kid
invariant-loop-kid l = Passing l.words l.place l.kids l.kid-index l.counts l.order l.free
