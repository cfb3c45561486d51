-- No bit is shared, or the loop has passed no privilege with both. Assumes nothing.
use Rattle.table.proofs.Lowest.{told_yes}
use Rattle.pairs.proofs.Paired.{none_both}
use Rattle.pairs.proofs.check.lowest_both.Goals as goal

pub returns-then-none_shared : goal.returns-then-none_shared
returns-then-none_shared c = let a = c.args in
    none_both a.v a.allowed.now a.forbidden.now (told_yes c.none_shared.result c.none_shared.ensures c.if-none_shared.true)
