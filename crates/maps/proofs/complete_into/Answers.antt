-- The front of the run is completed, behind it are zeros still, and the maps are those of the front. Assumes nothing.
use Rattle.std.proofs.Common.{◌-◌, ◌≤◌, ◌++◌, drop, take, sym, ◌∙◌, arith}
use Rattle.std.proofs.Math.Nat.{sub-zero}
use Rattle.table.proofs.Facts.{facts}
use Rattle.policy.specs.Marks.{Fit}
use Rattle.completion.specs.Steps.Passes.{Filled}
use Rattle.pairs.specs.Steps.Spelling.{Holds}
use Rattle.pairs.proofs.Spells.{holds_written}
use Rattle.maps.proofs.Results.{filled_fit}
use Rattle.maps.proofs.complete_into.Goals as goal

pub returns : goal.returns
returns c = let a = c.args in
    let filled : Filled a.words.now (take a.v a.marks.now) c.complete_all.new.m = rw (sub-zero _) at c.complete_all.ensures in
    let fit : Fit a.v c.complete_all.new.m = rw c.requires.2 (filled_fit filled) in
    let few : a.v ≤ 4096 = omega (arith, c.requires.2, (facts c.requires.0.accepted).privileges_few) in
    let holds : let n = c.complete_all.new.m in Holds n (n ++ drop (a.v - 0) a.marks.now) = holds_written c.requires.1 (c.requires.0.fit.size ∙ sym c.requires.2) fit few in
    (c.complete_all.new.m, filled, c.write_maps.ensures c.complete_all.new.m fit.size holds.each)
