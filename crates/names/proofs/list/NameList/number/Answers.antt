-- All declarations are listed, so what the list has is all there is. Assumes nothing.
use Rattle.std.proofs.Common.{refl}
use Rattle.names.proofs.Finding.{number_read}
use Rattle.names.proofs.list.NameList.number.Goals as goal

pub returns : goal.returns
returns c = number_read refl c.rank-k.ensures c.number_before.ensures
