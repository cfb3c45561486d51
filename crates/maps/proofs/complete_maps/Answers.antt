-- What is no policy is refused, and so is too short a result; a breach is told, and a clean policy's maps are completed. Assumes nothing.
use Rattle.std.proofs.Common.{refl, arith}
use Rattle.std.proofs.lemmas.Result.{err_from_is_err_and}
use Rattle.table.proofs.Lowest.{told_yes}
use Rattle.verdict.proofs.Firsts.{verdict_clean, verdict_broken}
use Rattle.pairs.proofs.Paired.{maps_none}
use Rattle.maps.specs.Answers.{ResultAnswer}
use Rattle.maps.proofs.Known.{known, front, front_lent, front_policy, whole}
use Rattle.maps.proofs.Results.{maps_completed, maps_broken}
use Rattle.maps.proofs.complete_maps.Goals as goal

pub returns-in_err-v : goal.returns-in_err-v
returns-in_err-v c = let p = err_from_is_err_and c.from_residual.result c.from_residual.ensures.1 in
    rw (p.1, p.2) (ResultAnswer.refused (maps_none c.in_err-v.field-0.0 c.in_err-v.ensures.answer) refl refl)

pub is_roomy-requires : goal.is_roomy-requires
is_roomy-requires c = (known c.in_ok-v.ensures.answer).few

pub spell-requires : goal.spell-requires
spell-requires c = (known c.in_ok-v.ensures.answer).room

pub slice_bounds-first_breach-end : goal.slice_bounds-first_breach-end
slice_bounds-first_breach-end c = omega (arith, (known c.in_ok-v.ensures.answer).few, c.spell.ensures.size)

pub returns-in_default : goal.returns-in_default
returns-in_default c = let k = known c.in_ok-v.ensures.answer in
    maps_broken k.pair (rw k.size at (told_yes c.is_roomy.result c.is_roomy.ensures c.if-not-is_roomy.false))
    (verdict_broken _ _ (rw (front_lent k c.spell.ensures) at c.first_breach-breach.ensures) c.in_default.not-None) refl refl

pub complete_into-requires : goal.complete_into-requires
complete_into-requires c = let k = known c.in_ok-v.ensures.answer in
    (front_policy k c.spell.ensures, whole k c.spell.ensures, k.size, c.in_ok-v.ensures.up refl, told_yes c.is_roomy.result c.is_roomy.ensures c.if-not-is_roomy.false)

pub returns : goal.returns
returns c = let k = known c.in_ok-v.ensures.answer in
    let told = c.complete_into.ensures in
    maps_completed k.pair (rw k.size at (told_yes c.is_roomy.result c.is_roomy.ensures c.if-not-is_roomy.false))
    (verdict_clean _ _ (rw (front_lent k c.spell.ensures) at c.first_breach-breach.ensures) c.in-None.is) (rw (front k c.spell.ensures) at told.1) refl told.2
