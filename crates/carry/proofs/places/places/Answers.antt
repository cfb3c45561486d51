-- The kids passed have their places. Assumes nothing.
use Rattle.std.proofs.Common.{ℕ, get_or, ◌∙◌, arith, length-set}
use Rattle.table.proofs.Lists.{fill_more}
use Rattle.carry.specs.Numbers.{new_number}
use Rattle.carry.specs.Steps.Placing.{Place}
use Rattle.carry.proofs.places.places.Goals as goal

pub loop-i-preserved : goal.loop-i-preserved
loop-i-preserved c = let a = c.args in
    let at = c.loop-i.invariant in
    let size = length-set {A = ℕ} c.loop-i.at c.loop-i.i c.place_near.result in
    record {
      size = size ∙ at.size;
      placed = fill_more (λ j r. Place a.others.now a.m (new_number a.numbers.now (get_or a.kids.now j 0)) r) c.loop-i.at c.loop-i.i c.place_near.result (omega (arith, at.size)) at.placed
          (rw (c.word_at-y.ensures.is, c.word_at.ensures.is) at c.place_near.ensures);
    }
