-- The name's rank is where its entry belongs.
use Rattle.std.proofs.Common.{refl, arith}
use Rattle.names.proofs.Entering.{entered}
use Rattle.names.proofs.list.NameList.enter.Goals as goal

pub returns-then-at-lt65536 : goal.returns-then-at-lt65536
returns-then-at-lt65536 c = (entered (omega arith) (omega arith) c.rank-k.ensures c.number_before-n.ensures c.shift.ensures, refl)
