-- An accepted table has the order. Assumes nothing.
use Rattle.std.proofs.Common.{refl}
use Rattle.table.proofs.Facts.{accepted_childed, accepted_ordered}
use Rattle.table.proofs.Rooted.{ordered_up}
use Rattle.table.proofs.order.bottom_up.Goals as goal

pub count_parents-requires : goal.count_parents-requires
count_parents-requires c = (accepted_childed c.requires, refl)

pub is_ordered-requires : goal.is_ordered-requires
is_ordered-requires c = (accepted_childed c.requires, c.count_parents.ensures)

pub returns : goal.returns
returns c = ordered_up c.is_ordered.ensures (accepted_ordered c.requires)
