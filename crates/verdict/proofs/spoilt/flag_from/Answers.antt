-- No mark of the range is above 1, or one is forbidden. Assumes nothing.
use Rattle.std.proofs.Common.{refl}
use Rattle.table.proofs.Lowest.{told_yes, told_no}
use Rattle.verdict.specs.Steps.Spoils.{up, down}
use Rattle.verdict.proofs.Spoils.{range_none, range_some}
use Rattle.verdict.proofs.spoilt.flag_from.Goals as goal

pub returns-then-none_above : goal.returns-then-none_above
returns-then-none_above c = down (range_none c.requires.1 (told_yes c.none_above.result c.none_above.ensures c.if-none_above.true)) refl

pub returns-else-none_above : goal.returns-else-none_above
returns-else-none_above c = let found = range_some _ _ _ c.requires.0 c.requires.1 c.requires.2 (told_no c.none_above.result c.none_above.ensures c.if-none_above.false) in
    up found.0 found.1 refl
