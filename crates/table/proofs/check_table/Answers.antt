-- The answer of the check that also gives the order. Assumes nothing.
use Rattle.table.proofs.check_table.Goals as goal

pub returns : goal.returns
returns c = c.check_ordered.ensures.answer
