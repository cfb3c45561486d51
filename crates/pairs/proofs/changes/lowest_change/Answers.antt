-- No privilege has another change, or the loop has passed none. Assumes nothing.
use Rattle.std.proofs.Common.{arith}
use Rattle.table.proofs.Lowest.{passed_more, passed_hit}
use Rattle.pairs.proofs.Comparing.{other_told, kept_told, all_told}
use Rattle.pairs.proofs.changes.lowest_change.Goals as goal

pub returns-then-all_kept : goal.returns-then-all_kept
returns-then-all_kept c = let pre = c.requires in
    all_told pre.0 pre.1 _ (omega (arith, pre.0.sized.allowed)) c.all_kept.result c.all_kept.ensures c.if-all_kept.true

pub returns-then-is_other : goal.returns-then-is_other
returns-then-is_other c = let pre = c.requires in
    passed_hit c.loop-p.invariant c.loop-p-test.true (other_told pre.0 pre.1 c.loop-p.p c.is_other.result c.is_other.ensures c.if-is_other.true)

pub loop-p-preserved : goal.loop-p-preserved
loop-p-preserved c = let pre = c.requires in
    passed_more c.loop-p.invariant c.loop-p-test.true (kept_told pre.0 pre.1 c.loop-p.p c.loop-p-test.true c.is_other.result c.is_other.ensures c.if-is_other.false)
