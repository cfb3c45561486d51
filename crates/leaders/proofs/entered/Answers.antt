-- The number stands before the first place, the second or the third. Assumes nothing.
use Rattle.table.proofs.Lowest.{told_yes, told_no}
use Rattle.leaders.proofs.Entering.{enter_first, enter_second, enter_third}
use Rattle.leaders.proofs.entered.Goals as goal

pub returns-then-is_behind : goal.returns-then-is_behind
returns-then-is_behind c = enter_first c.requires.0 (told_yes c.is_behind.result c.is_behind.ensures c.if-is_behind.true)

pub returns-then-is_behind-2 : goal.returns-then-is_behind-2
returns-then-is_behind-2 c = enter_second c.requires.0 (told_no c.is_behind.result c.is_behind.ensures c.if-is_behind.false)
    (told_yes c.is_behind-2.result c.is_behind-2.ensures c.if-is_behind-2.true)

pub returns : goal.returns
returns c = enter_third c.requires.0 (told_no c.is_behind.result c.is_behind.ensures c.if-is_behind.false)
    (told_no c.is_behind-2.result c.is_behind-2.ensures c.if-is_behind-2.false) c.requires.2
