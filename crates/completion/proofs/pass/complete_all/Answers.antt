-- The pass has done the types from place k of the order on, and so the parents of the type that it comes to. Assumes nothing.
use Rattle.completion.proofs.Descent.{descent_start, descent_visit, descent_on, descent_all}
use Rattle.completion.proofs.pass.complete_all.Goals as goal
use Rattle.std.proofs.Common.{◌≡◌, arith}

pub loop-k-init : goal.loop-k-init
loop-k-init c = rw c.types-k.ensures.is (descent_start c.requires.0.accepted)

pub complete_type-requires : goal.complete_type-requires
complete_type-requires c = descent_visit c.requires.0 c.requires.1 c.loop-k.invariant (omega arith) (omega arith) c.from-x.ensures c.args.firsts.now c.requires.2 c.from.ensures

pub loop-k-preserved : goal.loop-k-preserved
loop-k-preserved c = descent_on c.requires.0 c.requires.1 c.loop-k.invariant (omega arith) (omega arith) c.from-x.ensures c.complete_type.ensures

pub returns : goal.returns
returns c = let end : c.loop-k.k ≡ 0 = omega arith in
    descent_all c.requires.0 c.requires.1 (rw end at c.loop-k.invariant)
