-- A whole ANY is past a limit, and a part of it is none of the grammar.
use Rattle.scan.proofs.Readings.{handed_on}
use Rattle.scan.proofs.Declared.{any_passes, any_stops}
use Rattle.scan.proofs.item.any.Goals as goal

pub returns-in_err-word : goal.returns-in_err-word
returns-in_err-word c = rw (handed_on c.from_residual.result c.from_residual.ensures.1) (any_stops c.requires _ c.in_err-word.ensures)

pub returns : goal.returns
returns c = any_passes c.in_ok-word.ensures
