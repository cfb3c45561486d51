-- What is no policy is refused, and a policy's marks get their verdict. Assumes nothing.
use Rattle.std.proofs.Common.{refl, arith}
use Rattle.std.proofs.lemmas.Result.{err_from_is_err_and}
use Rattle.verdict.specs.Answers.{judged}
use Rattle.pairs.proofs.Paired.{maps_none}
use Rattle.pairs.proofs.Spells.{spells_policy}
use Rattle.maps.specs.Answers.{refused, agrees}
use Rattle.maps.proofs.Known.{known, front_lent}
use Rattle.maps.proofs.judge_maps.Goals as goal

pub returns-in_err-v : goal.returns-in_err-v
returns-in_err-v c = let p = err_from_is_err_and c.from_residual.result c.from_residual.ensures.1 in
    rw (p.1, p.2) (refused (maps_none c.in_err-v.field-0.0 c.in_err-v.ensures.answer) refl)

pub spell-requires : goal.spell-requires
spell-requires c = (known c.in_ok-v.ensures.answer).room

pub slice_bounds-first_breach-end : goal.slice_bounds-first_breach-end
slice_bounds-first_breach-end c = omega (arith, (known c.in_ok-v.ensures.answer).few, c.spell.ensures.size)

pub returns : goal.returns
returns c = let k = known c.in_ok-v.ensures.answer in
    agrees k.pair (judged (spells_policy k.pair) (rw (front_lent k c.spell.ensures) at c.first_breach.ensures) refl)
