-- By whether entries are lent. Assumes nothing.
use Rattle.std.proofs.Common.{arith}
use Rattle.table.proofs.Facts.{facts}
use Rattle.verdict.proofs.breaches.asked_of.Goals as goal

pub entry_at-requires : goal.entry_at-requires
entry_at-requires c = let p = c.requires in omega (arith, p.1, (facts p.0.accepted).few)
