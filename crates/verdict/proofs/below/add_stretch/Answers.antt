-- None, the first, or more. Assumes nothing.
use Rattle.std.proofs.Common.{arith, refl}
use Rattle.table.proofs.HowMany.{many_most, none_many, some_many}
use Rattle.verdict.specs.Steps.Tallies.{none, first, more}
use Rattle.verdict.proofs.below.add_stretch.Goals as goal

pub returns-then-more-eq0 : goal.returns-then-more-eq0
returns-then-more-eq0 c = none (λ q h. none_many c.count_forbidden-more.ensures c.if-more-eq0.true q h.range.high h.range) refl

pub lowest_from-requires : goal.lowest_from-requires
lowest_from-requires c = let one = some_many c.count_forbidden-more.ensures c.if-more-eq0.false in
    (one.0, one.2.low, one.2.forbidden)

pub returns-then-count-eq0 : goal.returns-then-count-eq0
returns-then-count-eq0 c = let one = some_many c.count_forbidden-more.ensures c.if-more-eq0.false in
    first c.if-count-eq0.true c.if-flag-ne1.false (omega (arith, c.lowest_from.ensures.least one.0 one.2.low one.2.forbidden, one.1))
    c.lowest_from.ensures c.count_forbidden-more.ensures

pub overflow_add-result : goal.overflow_add-result
overflow_add-result c = omega (arith, many_most c.count_forbidden-more.ensures, c.requires.2, c.requires.3)

pub returns : goal.returns
returns c = more c.if-count-eq0.false c.if-flag-ne1.false c.count_forbidden-more.ensures refl refl
