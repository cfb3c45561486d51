-- A type is on a cycle exactly if it is below one of its own children. Assumes nothing.
use Rattle.table.proofs.Children.{tiled_children}
use Rattle.table.proofs.below.is_on_cycle.Goals as goal

pub children-requires : goal.children-requires
children-requires c = tiled_children c.requires.0.tiled _ c.requires.1
