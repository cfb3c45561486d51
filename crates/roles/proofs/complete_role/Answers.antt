-- Its marks are as many as the stretch is long; they are a policy, or one is above 2. Assumes nothing.
use Rattle.std.proofs.Common.{ℕ, List, ◌≡◌, refl, sym, ap, ◌∙◌, arith}
use Rattle.table.specs.Check.{Accepted}
use Rattle.table.specs.Privilege.{privileges}
use Rattle.table.specs.Refusals.{number_of}
use Rattle.table.specs.declared.refusal.Refusal.{Refusal}
use Rattle.policy.specs.Marks.{Policy, marks}
use Rattle.policy.specs.Misfits.{refusal_of}
use Rattle.policy.specs.Steps.Checking.{MarksAnswer}
use Rattle.policy.proofs.Policies.{misfit_refused, marks_fit}
use Rattle.policy.proofs.Stretches.{none_behind}
use Rattle.verdict.specs.Answers.{breached, done}
use Rattle.verdict.specs.Results.{refusal_answer}
use Rattle.verdict.proofs.Firsts.{verdict_clean, verdict_broken}
use Rattle.completion.specs.Answers.{refused, none, given}
use Rattle.completion.proofs.Completing.{broken_none}
use Rattle.completion.proofs.Least.{completed_least}
use Rattle.roles.proofs.complete_role.Goals as goal

-- marks that pass, as many as the stretch is long, are a policy's
policy_of : {ws ms : List ℕ} {v : ℕ} → Accepted ws → v ≡ privileges ws → MarksAnswer 10 v ms 0 0 → Policy ws ms
policy_of a e m = record { accepted = a; fit = rw e at (marks_fit (omega arith) refl m) }

pub returns-in-Err : goal.returns-in-Err
returns-in-Err c = record {
  answer = refusal_answer (refusal_of c.in-Err.misfit);
  single = refused (marks c.requires.0 (rw c.requires.4 at (misfit_refused c.in-Err.misfit (c.in-Err.ensures 10)))) refl refl;
  is = c.from-in-Err.ensures ∙ c.number.ensures ∙ ap (λ (r : Refusal). number_of r) c.from.ensures;
}

pub first_breach-breach-requires : goal.first_breach-breach-requires
first_breach-breach-requires c = (policy_of c.requires.0 c.requires.4 (c.in_default.ensures 10), c.requires.1)

pub returns-in_default-condition : goal.returns-in_default-condition
returns-in_default-condition c =
    let first = verdict_broken _ _ c.first_breach-breach.ensures c.in_default-condition.not-None in
    record {
      answer = breached c.first_breach-breach.result;
      single = none (policy_of c.requires.0 c.requires.4 (c.in_default.ensures 10)) (omega (arith, c.requires.4)) (broken_none first) first refl refl;
      is = refl;
    }

pub complete_copy-requires : goal.complete_copy-requires
complete_copy-requires c = (policy_of c.requires.0 c.requires.4 (c.in_default.ensures 10), c.requires.1, c.requires.2, c.requires.4 ∙ sym c.requires.3)

pub returns : goal.returns
returns c =
    let policy = policy_of c.requires.0 c.requires.4 (c.in_default.ensures 10) in
    record {
      answer = done 0;
      single = given policy (omega (arith, c.requires.4))
          (completed_least policy c.complete_copy.ensures (verdict_clean _ _ c.first_breach-breach.ensures c.in-None.is)) refl
          (sym (none_behind _ c.complete_copy.new.m c.args.out.now c.requires.4));
      is = refl;
    }
