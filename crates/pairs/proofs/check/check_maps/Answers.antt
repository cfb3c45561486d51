-- The table comes first, then the pair. Assumes nothing.
use Rattle.std.proofs.Common.{refl, arith}
use Rattle.std.proofs.lemmas.Result.{err_from_is_err_and}
use Rattle.table.proofs.Answers.{refusal_not}
use Rattle.table.proofs.Facts.{facts}
use Rattle.policy.proofs.Policies.{table_accepted}
use Rattle.pairs.specs.Maps.{table, pair}
use Rattle.pairs.specs.Steps.Checking.{refused, fits}
use Rattle.pairs.proofs.Paired.{fault_refused, pair_fits}
use Rattle.pairs.proofs.check.check_maps.Goals as goal

pub returns-in_err-v : goal.returns-in_err-v
returns-in_err-v c = let p = err_from_is_err_and c.from_residual.result c.from_residual.ensures.1 in
    rw (p.1, p.2) (record { answer = refused (table (refusal_not c.in_err-v.field-0.0) c.in_err-v.ensures.answer); up = c.in_err-v.ensures.up })

pub check_pair-requires : goal.check_pair-requires
check_pair-requires c = let t = table_accepted refl c.in_ok-v.ensures.answer in
    omega (arith, t.1, (facts t.0).privileges_few)

pub returns-in_err-check_pair : goal.returns-in_err-check_pair
returns-in_err-check_pair c = let p = err_from_is_err_and c.from_residual-in_err-check_pair.result c.from_residual-in_err-check_pair.ensures.1 in
    let t = table_accepted refl c.in_ok-v.ensures.answer in
    rw (p.1, p.2) (record {
      answer = refused (pair t.0 (rw t.1 at (fault_refused c.in_err-check_pair.field-0.0 (c.in_err-check_pair.ensures 10 23 24))));
      up = λ e. c.in_ok-v.ensures.up refl;
    })

pub returns : goal.returns
returns c = let t = table_accepted refl c.in_ok-v.ensures.answer in
    record {
      answer = fits (record {
        accepted = t.0;
        paired = rw t.1 at (pair_fits (λ e. omega arith) (λ e. omega arith) (λ e. omega arith) refl (c.in_ok-check_pair.ensures 10 23 24));
      }) refl t.1;
      up = λ e. c.in_ok-v.ensures.up refl;
    }
