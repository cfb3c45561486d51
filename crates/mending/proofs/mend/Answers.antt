-- What is no policy is refused, and so is too short a result; the front of the result holds the mend. Assumes nothing.
use Rattle.std.proofs.Common.{drop, ◌++◌, ◌≡◌, refl, ap, ◌∙◌, ℕ, arith}
use Rattle.std.proofs.lemmas.Result.{err_from_is_err_and}
use native.Mathlib.Nat.{sub-zero}
use Rattle.table.specs.Privilege.{privileges}
use Rattle.policy.specs.Marks.{Policy}
use Rattle.policy.proofs.Policies.{policy_none, policy_fits}
use Rattle.mending.specs.Answers.{refused, mended}
use Rattle.mending.proofs.mend.Goals as goal

pub returns-in_err-v : goal.returns-in_err-v
returns-in_err-v c = let p = err_from_is_err_and c.from_residual.result c.from_residual.ensures.1 in
    rw (p.1, p.2) (refused (policy_none c.in_err-v.field-0.0 c.in_err-v.ensures.answer) refl refl)

pub returns : goal.returns
returns c = let p : Policy c.args.words.now c.args.marks.now × (c.in_ok-v.v ≡ privileges c.args.words.now) = policy_fits refl c.in_ok-v.ensures.answer in
    mended p.0 (omega (arith, p.1, c.if-out-v.false)) c.mend_copy.ensures refl
    (ap (λ (k : ℕ). c.mend_copy.new.m ++ drop k c.args.out.now) (sub-zero _ ∙ p.1))
