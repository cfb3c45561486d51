-- Behind the declared types come the made ones, each entered in its turn. Assumes nothing.
use Rattle.std.proofs.Common.{◌∙◌, add-one, arith}
use Rattle.labels.proofs.Turns.{booking_made}
use Rattle.labels.proofs.put_labels.Goals as goal

pub loop-x-preserved : goal.loop-x-preserved
loop-x-preserved c = let d = c.enter_made.ensures in (
  d.names_kept ∙ c.loop-x.invariant.0,
  d.starts_kept ∙ c.loop-x.invariant.1,
  λ ds y short h k.
      (let g = c.loop-x.invariant.2 ds y short h k in
      (omega (arith, g.0), omega arith, rw (add-one c.loop-x.x) (booking_made ds g.0 (omega arith) d g.2))),
)
