-- The checks in their order; then the proposed policy gets its verdict. Assumes nothing.
use Rattle.std.proofs.Common.{ℕ, List, arith, ◌≡◌, refl}
use Rattle.std.proofs.lemmas.Result.{err_from_is_err_and}
use Rattle.table.specs.Privilege.{privileges}
use Rattle.table.proofs.Facts.{facts}
use Rattle.policy.specs.Marks.{Fit, Policy}
use Rattle.policy.specs.Steps.Checking.{PolicyAnswer, MarksAnswer}
use Rattle.policy.proofs.Policies.{policy_none, policy_fits, marks_fit}
use Rattle.verdict.proofs.Firsts.{verdict_clean, verdict_broken}
use Rattle.proposing.specs.Answers.{refused, unfit, changed, broken, accepted}
use Rattle.proposing.proofs.Misfits.{proposed_unfit}
use Rattle.proposing.proofs.judge_mend.Goals as goal

-- what is known behind both checks
record Checked (ws marks proposed : List ℕ) (v : ℕ) : Type 0 where
  policy : Policy ws marks
  fit : Fit (privileges ws) proposed
  size : v ≡ privileges ws

checked : {ws marks proposed : List ℕ} {v : ℕ} → PolicyAnswer ws marks 0 v → MarksAnswer 13 v proposed 0 0 → Checked ws marks proposed v
checked p m = let q = policy_fits refl p in record { policy = q.0; fit = rw q.1 at (marks_fit (omega arith) refl m); size = q.1 }

pub returns-in_err-v : goal.returns-in_err-v
returns-in_err-v c = let p = err_from_is_err_and c.from_residual.result c.from_residual.ensures.1 in
    rw (p.1, p.2) (refused (policy_none c.in_err-v.field-0.0 c.in_err-v.ensures.answer) refl)

pub returns-in-Err : goal.returns-in-Err
returns-in-Err c = let p : Policy c.args.words.now c.args.marks.now × (c.in_ok-v.v ≡ privileges c.args.words.now) = policy_fits refl c.in_ok-v.ensures.answer in
    rw c.proposed_refusal.ensures (unfit p.0 (rw p.1 at (proposed_unfit c.in-Err.misfit (c.in-Err.ensures 13))) refl)

pub lowest_change-requires : goal.lowest_change-requires
lowest_change-requires c = let known = checked c.in_ok-v.ensures.answer (c.in_default.ensures 13) in
    (omega (arith, known.size, known.policy.fit.size), omega (arith, known.size, known.fit.size))

pub returns-in-Some : goal.returns-in-Some
returns-in-Some c = let known = checked c.in_ok-v.ensures.answer (c.in_default.ensures 13) in
    changed known.policy known.fit (rw known.size at c.in-Some.ensures) refl

pub first_breach-breach-requires : goal.first_breach-breach-requires
first_breach-breach-requires c = let known = checked c.in_ok-v.ensures.answer (c.in_default.ensures 13) in
    (record { accepted = known.policy.accepted; fit = known.fit }, c.in_ok-v.ensures.up refl)

pub returns-in_default-condition : goal.returns-in_default-condition
returns-in_default-condition c = let known = checked c.in_ok-v.ensures.answer (c.in_default.ensures 13) in
    broken known.policy known.fit (rw known.size at c.in_default-lowest_change.ensures)
    (verdict_broken _ _ c.first_breach-breach.ensures c.in_default-condition.not-None) refl

pub count_changes-requires : goal.count_changes-requires
count_changes-requires c = let known = checked c.in_ok-v.ensures.answer (c.in_default.ensures 13) in (
  omega (arith, known.size, known.policy.fit.size),
  omega (arith, known.size, known.fit.size),
  omega (arith, known.size, (facts known.policy.accepted).privileges_few),
)

pub returns : goal.returns
returns c = let known = checked c.in_ok-v.ensures.answer (c.in_default.ensures 13) in
    accepted known.policy known.fit (rw known.size at c.in_default-lowest_change.ensures)
    (verdict_clean _ _ c.first_breach-breach.ensures c.in-None.is) (rw known.size at c.count_changes.ensures) refl
