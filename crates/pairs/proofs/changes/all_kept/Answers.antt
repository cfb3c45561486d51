-- The flag tells of the bytes passed. Assumes nothing.
use Rattle.std.proofs.Common.{ℕ, ◌<◌, ◌≡◌, length, arith}
use Rattle.table.proofs.Lowest.{tells_all_more}
use Rattle.pairs.specs.Maps.{maps}
use Rattle.pairs.specs.Steps.Changing.{OtherAt}
use Rattle.pairs.proofs.Picks.{picked_none}
use Rattle.pairs.proofs.changes.all_kept.Goals as goal

pub loop-k-preserved : goal.loop-k-preserved
loop-k-preserved c = let a = c.args in
    let old = maps a.allowed.now a.forbidden.now in
    let new = maps a.proposed_allowed.now a.proposed_forbidden.now in
    tells_all_more (λ (i : ℕ). (j : ℕ) → j < 8 → ¬ OtherAt old new i j) c.loop-k.k c.loop-k.kept _ c.loop-k.invariant (picked_none c.other_changes-other.ensures)

pub returns : goal.returns
returns c = let end : c.loop-k.k ≡ length c.args.allowed.now = omega (arith, c.loop-k-test.false, c.loop-k.auto) in
    rw (← end) c.loop-k.invariant
