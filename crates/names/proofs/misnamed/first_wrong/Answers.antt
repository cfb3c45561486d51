-- A declaration's own name stands before those that it uses. Assumes nothing.
use Rattle.std.proofs.Common.{arith}
use Rattle.names.proofs.Wrongs.{wrong_again, wrong_used}
use Rattle.names.proofs.misnamed.first_wrong.Goals as goal

pub returns-then-number-m : goal.returns-then-number-m
returns-then-number-m c = wrong_again c.number.ensures (omega arith)

pub returns : goal.returns
returns c = wrong_used c.number.ensures (omega arith) c.first_use.ensures c.first_unknown.ensures
