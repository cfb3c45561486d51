-- What is no policy, or has no room, is refused; a policy with a breach has no completion; a clean one gets the least. Assumes nothing.
use Rattle.std.proofs.Common.{ℕ, ◌≤◌, ◌≡◌, refl, ap, ◌∙◌, ◌++◌, arith, length, drop}
use Rattle.std.proofs.lemmas.Result.{err_from_is_err_and}
use native.Mathlib.Nat.{sub-zero}
use Rattle.table.specs.Privilege.{privileges}
use Rattle.policy.specs.Marks.{Policy}
use Rattle.policy.proofs.Policies.{policy_none, policy_fits}
use Rattle.verdict.proofs.Firsts.{verdict_clean, verdict_broken}
use Rattle.completion.specs.Answers.{refused, none, given}
use Rattle.completion.proofs.Completing.{broken_none}
use Rattle.completion.proofs.Least.{completed_least}
use Rattle.completion.proofs.complete.Goals as goal

pub returns-in_err-v : goal.returns-in_err-v
returns-in_err-v c = let p = err_from_is_err_and c.from_residual.result c.from_residual.ensures.1 in
    rw (p.1, p.2) (refused (policy_none c.in_err-v.field-0.0 c.in_err-v.ensures.answer) refl refl)

pub returns-in_default : goal.returns-in_default
returns-in_default c = let fits : let a = c.args in Policy a.words.now a.marks.now × (c.in_ok-v.v ≡ privileges a.words.now) = policy_fits refl c.in_ok-v.ensures.answer in
    let room : let a = c.args in privileges a.words.now ≤ length a.out.now = omega (arith, c.if-out-v.false, fits.1) in
    let first = verdict_broken _ _ c.first_breach-breach.ensures c.in_default.not-None in
    none fits.0 room (broken_none first) first refl refl

pub returns : goal.returns
returns c = let fits : let a = c.args in Policy a.words.now a.marks.now × (c.in_ok-v.v ≡ privileges a.words.now) = policy_fits refl c.in_ok-v.ensures.answer in
    let room : let a = c.args in privileges a.words.now ≤ length a.out.now = omega (arith, c.if-out-v.false, fits.1) in
    given fits.0 room (completed_least fits.0 c.complete_copy.ensures (verdict_clean _ _ c.first_breach-breach.ensures c.in-None.is)) refl
    (ap (λ (k : ℕ). c.complete_copy.new.m ++ drop k c.args.out.now) (sub-zero _ ∙ fits.1))
