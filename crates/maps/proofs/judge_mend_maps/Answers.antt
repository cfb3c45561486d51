-- The checks in their order; then the proposed pair is judged. Assumes nothing.
use Rattle.std.proofs.Common.{refl, arith}
use Rattle.std.proofs.lemmas.Result.{err_from_is_err_and}
use Rattle.pairs.proofs.Paired.{maps_none, pair_fits, proposed_refused}
use Rattle.maps.specs.Answers.{ProposeMapsAnswer, unpaired}
use Rattle.maps.proofs.Known.{known}
use Rattle.maps.proofs.judge_mend_maps.Goals as goal

pub returns-in_err-v : goal.returns-in_err-v
returns-in_err-v c = let p = err_from_is_err_and c.from_residual.result c.from_residual.ensures.1 in
    rw (p.1, p.2) (ProposeMapsAnswer.refused (maps_none c.in_err-v.field-0.0 c.in_err-v.ensures.answer) refl)

pub check_pair-requires : goal.check_pair-requires
check_pair-requires c = (known c.in_ok-v.ensures.answer).few

pub returns-in-Err : goal.returns-in-Err
returns-in-Err c = let k = known c.in_ok-v.ensures.answer in
    rw c.proposed_refusal.ensures (unpaired k.pair (rw k.size at (proposed_refused c.in-Err.fault (c.in-Err.ensures 13 14 14))) refl)

pub judge_pair-requires : goal.judge_pair-requires
judge_pair-requires c = let k = known c.in_ok-v.ensures.answer in
    (k.pair, rw k.size at (pair_fits (λ e. omega arith) (λ e. omega arith) (λ e. omega arith) refl (c.in_default.ensures 13 14 14)), k.size, c.in_ok-v.ensures.up refl)

pub returns : goal.returns
returns c = let k = known c.in_ok-v.ensures.answer in
    ProposeMapsAnswer.agrees k.pair (rw k.size at (pair_fits (λ e. omega arith) (λ e. omega arith) (λ e. omega arith) refl (c.in_default.ensures 13 14 14))) c.judge_pair.ensures
