-- Where either row has none nothing is moved, else one pair. Assumes nothing.
use Rattle.carry.proofs.Replacing.{both_there}
use Rattle.carry.proofs.replaced.carry_replacement.Goals as goal

pub returns : goal.returns
returns c = both_there (rw c.in-Some.is at c.replaced_by.ensures) (rw c.in-Some-replaced_by.is at c.replaced_by-2.ensures) c.move_mark.ensures
