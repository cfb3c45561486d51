-- A ')' is passed, or none stands there.
use Rattle.std.proofs.Common.{add-one}
use Rattle.code.specs.Steps.Putting.{passed, left}
use Rattle.code.proofs.particle.behind.Goals as goal

pub returns-then-is : goal.returns-then-is
returns-then-is c = rw (add-one c.args.at) (passed c.if-is.ensures)

pub returns : goal.returns
returns c = left c.if-is.ensures
