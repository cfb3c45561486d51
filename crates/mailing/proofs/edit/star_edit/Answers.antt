-- By its number: insert, delete, or the exchange. Assumes nothing.
use Rattle.std.proofs.Common.{arith}
use Rattle.table.proofs.Facts.{has_children}
use Rattle.mailing.proofs.Naming.{star_inserts, star_deletes, star_exchanges}
use Rattle.mailing.proofs.edit.star_edit.Goals as goal

pub child_at-child-requires : goal.child_at-child-requires
child_at-child-requires c = let p = c.requires in has_children p.0 p.1.type

pub returns-in-0 : goal.returns-in-0
returns-in-0 c = let p = c.requires in star_inserts _ _ _ p.1 c.in-0.is c.child_at-child.ensures

pub returns-in-1 : goal.returns-in-1
returns-in-1 c = let p = c.requires in star_deletes _ _ _ p.1 c.in-1.is c.child_at-child.ensures

pub returns-in_default : goal.returns-in_default
returns-in_default c = let p = c.requires in star_exchanges _ _ _ p.1 p.2 (omega arith) (omega arith) c.child_at-child.ensures
