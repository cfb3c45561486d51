-- The loop has counted the changes of the bytes passed. Assumes nothing.
use Rattle.std.proofs.Common.{arith}
use Rattle.table.specs.HowMany.{none}
use Rattle.table.proofs.HowMany.{many_most}
use Rattle.pairs.proofs.Comparing.{many_eight, many_end}
use Rattle.pairs.proofs.changes.count_changes.Goals as goal
use Rattle.std.proofs.lemmas.Nat.{ones-le}

pub loop-k-init : goal.loop-k-init
loop-k-init c = none

pub overflow_add-count : goal.overflow_add-count
overflow_add-count c = let pre = c.requires in
    omega (arith, ones-le 8 c.changed-more.result c.changed-more.ensures.fits, many_most c.loop-k.invariant, c.loop-k-test.true, pre.0.sized.allowed, pre.2)

pub loop-k-preserved : goal.loop-k-preserved
loop-k-preserved c = many_eight c.requires.0 c.requires.1 c.loop-k.k c.loop-k.invariant c.changed-more.ensures

pub returns : goal.returns
returns c = let pre = c.requires in
    rw c.from.ensures (many_end pre.0 pre.1 (omega (arith, c.loop-k-test.false, pre.0.sized.allowed)) c.loop-k.invariant)
