-- The byte is taken, or left.
use Rattle.std.proofs.Common.{add-one}
use Rattle.scan.specs.Steps.Readers.{taken, left}
use Rattle.scan.proofs.piece.mark.Goals as goal

pub returns-then-is_of : goal.returns-then-is_of
returns-then-is_of c = rw (add-one c.args.at) (taken c.if-is_of.ensures)

pub returns : goal.returns
returns c = left c.if-is_of.ensures
