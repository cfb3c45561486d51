-- The front of the run is mended, behind it are zeros still, and the maps are those of the front. Assumes nothing.
use Rattle.std.proofs.Common.{◌-◌, ◌≤◌, ◌++◌, drop, take, sym, ◌∙◌, arith}
use Rattle.std.proofs.Math.Nat.{sub-zero}
use Rattle.table.proofs.Facts.{facts}
use Rattle.policy.specs.Marks.{Fit}
use Rattle.mending.specs.Mends.{Mends}
use Rattle.pairs.specs.Steps.Spelling.{Holds}
use Rattle.pairs.proofs.Spells.{holds_written, holds_legal}
use Rattle.maps.proofs.Results.{mended_fit}
use Rattle.maps.proofs.mend_into.Goals as goal

pub write_maps-requires : goal.write_maps-requires
write_maps-requires c = let a = c.args in
    let mended : Mends a.words.now (take a.v a.marks.now) c.mend_all-count.new.m c.mend_all-count.result = rw (sub-zero _) at c.mend_all-count.ensures in
    let fit : Fit a.v c.mend_all-count.new.m = rw c.requires.2 (mended_fit c.requires.0.fit mended) in
    let few : a.v ≤ 4096 = omega (arith, c.requires.2, (facts c.requires.0.accepted).privileges_few) in
    let holds : let n = c.mend_all-count.new.m in Holds n (n ++ drop (a.v - 0) a.marks.now) = holds_written c.requires.1 (c.requires.0.fit.size ∙ sym c.requires.2) fit few in
    (holds.size, λ p l. holds_legal holds fit p, few, c.requires.4)

pub returns : goal.returns
returns c = let a = c.args in
    let mended : Mends a.words.now (take a.v a.marks.now) c.mend_all-count.new.m c.mend_all-count.result = rw (sub-zero _) at c.mend_all-count.ensures in
    let fit : Fit a.v c.mend_all-count.new.m = rw c.requires.2 (mended_fit c.requires.0.fit mended) in
    let few : a.v ≤ 4096 = omega (arith, c.requires.2, (facts c.requires.0.accepted).privileges_few) in
    let holds : let n = c.mend_all-count.new.m in Holds n (n ++ drop (a.v - 0) a.marks.now) = holds_written c.requires.1 (c.requires.0.fit.size ∙ sym c.requires.2) fit few in
    (c.mend_all-count.new.m, mended, c.write_maps.ensures c.mend_all-count.new.m fit.size holds.each)
