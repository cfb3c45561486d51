-- The flag tells of the marks passed. Assumes nothing.
use Rattle.std.proofs.Common.{◌≡◌, length, take, length-append, rules}
use Rattle.std.proofs.lemmas.Slice.Zip.{zip_turn}
use Rattle.std.specs.Iterator.Adapters.{zip_first, zip_second}
use Rattle.std.specs.Slice.Iter.{iter_rest}
use Rattle.table.proofs.Lowest.{tells_all_more}
use Rattle.proposing.specs.Proposals.{Kept}
use Rattle.proposing.proofs.Changes.{pair_told}
use Rattle.proposing.proofs.compare.all_kept.Goals as goal

pub loop-old-preserved : goal.loop-old-preserved
loop-old-preserved c =
    let m = c.args.marks.now in
    let n = c.args.proposed.now in
    let first : iter_rest (zip_first c.into_iter-old-iterator.result) ≡ take c.args.v m = search rules in
    let second : iter_rest (zip_second c.into_iter-old-iterator.result) ≡ take c.args.v n = search rules in
    let turn = zip_turn _ _ c.loop-old.yielded c.into_iter-old-iterator.result c.loop-old.old-iterator c.next.new.self _ first second c.loop-old.yielded_by _ c.in-Some.is c.next.ensures.steps in
    rw length-append (tells_all_more (Kept m n) (length c.loop-old.yielded) c.loop-old.kept _ c.loop-old.invariant (pair_told m n c.args.v turn _ c.is_kept-kept.ensures))
