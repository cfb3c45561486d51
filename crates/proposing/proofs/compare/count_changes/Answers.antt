-- The loop has counted the changes passed. Assumes nothing.
use Rattle.std.proofs.Common.{◌≡◌, take, length-append, arith, rules}
use Rattle.std.proofs.lemmas.Slice.Zip.{zip_turn}
use Rattle.std.specs.Iterator.Adapters.{zip_first, zip_second}
use Rattle.std.specs.Slice.Iter.{iter_rest}
use Rattle.table.specs.HowMany.{none}
use Rattle.table.proofs.HowMany.{many_next, many_skip}
use Rattle.proposing.proofs.Changes.{pair_changed, pair_kept}
use Rattle.proposing.proofs.compare.count_changes.Goals as goal

pub loop-old-init : goal.loop-old-init
loop-old-init c = (none, omega arith)

pub loop-old-preserved-then-new-old : goal.loop-old-preserved-then-new-old
loop-old-preserved-then-new-old c =
    let m = c.args.marks.now in
    let n = c.args.proposed.now in
    let first : iter_rest (zip_first c.into_iter-old-iterator.result) ≡ take c.args.v m = search rules in
    let second : iter_rest (zip_second c.into_iter-old-iterator.result) ≡ take c.args.v n = search rules in
    let turn = zip_turn _ _ c.loop-old.yielded c.into_iter-old-iterator.result c.loop-old.old-iterator c.next.new.self _ first second c.loop-old.yielded_by _ c.in-Some.is c.next.ensures.steps in
    rw length-append (many_next c.loop-old.invariant.0 (pair_changed m n c.args.v turn c.if-new-old.true), omega arith)

pub loop-old-preserved : goal.loop-old-preserved
loop-old-preserved c =
    let m = c.args.marks.now in
    let n = c.args.proposed.now in
    let first : iter_rest (zip_first c.into_iter-old-iterator.result) ≡ take c.args.v m = search rules in
    let second : iter_rest (zip_second c.into_iter-old-iterator.result) ≡ take c.args.v n = search rules in
    let turn = zip_turn _ _ c.loop-old.yielded c.into_iter-old-iterator.result c.loop-old.old-iterator c.next.new.self _ first second c.loop-old.yielded_by _ c.in-Some.is c.next.ensures.steps in
    rw length-append (many_skip c.loop-old.invariant.0 (pair_kept m n c.args.v turn c.if-new-old.false), omega arith)
