-- What the calls have written, read back from the front of the lent result. Assumes nothing.
use Rattle.std.proofs.Common.{Result, Ok, Err, refl, ℕ, ◌+◌, ◌≤◌, ◌<◌, ◌≡◌, sym, ap, subst, ◌∙◌, ◌≢◌, ◌⊎◌, inl, inr, List, ◌++◌, arith, length, get_or, take, drop, take_at}
use Rattle.table.specs.Privilege.{privileges}
use Rattle.table.specs.Check.{Accepted}
use Rattle.std.specs.Prelude.{IsOk}
use Rattle.table.proofs.Answers.{accepted_answer, refusal_not}
use Rattle.table.specs.declared.refusal.Refusal.{Refusal}
use Rattle.verdict.specs.declared.Rejection.{Rejection}
use Rattle.verdict.specs.declared.Rejection.TheVariants.{Refused, Broken}
use Rattle.verdict.specs.Results.{rejection_answer, counted_answer}
use Rattle.table.proofs.Facts.{facts}
use Rattle.policy.specs.Marks.{Unfit, Policy, table, marks}
use Rattle.verdict.specs.Breaches.{Verdict}
use Rattle.verdict.specs.Answers.{JudgeAnswer, refused, judged}
use Rattle.verdict.specs.declared.Breach.{Breach}
use Rattle.verdict.specs.declared.Answer.{Answer}
use Rattle.policy.proofs.Policies.{policy_not, refused_number}
use Rattle.completion.specs.Completions.{Completes, LeastCompletion}
use Rattle.completion.specs.Answers as completing
use Rattle.mending.specs.Mends.{Mends}
use Rattle.mending.specs.Answers as mending
use Rattle.mending.proofs.Mended.{mends_lowered}
use Rattle.lines.specs.Steps.Putting.{Raisable}

rejection_not : (r : Rejection) → (rejection_answer r).number ≢ 0
rejection_not (Refused r) = refusal_not r
rejection_not (Broken b) = λ e. omega arith

-- the verdict's answer, where the table is accepted
module _ {ws ms : List ℕ} {a : Answer} (accepted : Accepted ws) where
  pub marks_judged : JudgeAnswer ws ms a → a.number ≡ 0 → Policy ws ms × Verdict ws ms a.breach
  marks_judged (refused why is) done = absurd (refused_number why (sym (ap (λ (x : Answer). x.number) is) ∙ done))
  marks_judged (judged policy verdict is) done = (policy, subst (λ (b : Breach). Verdict ws ms b) (sym (ap (λ (x : Answer). x.breach) is)) verdict)

  pub marks_refused : JudgeAnswer ws ms a → a.number ≢ 0 → Unfit 10 (privileges ws) ms a.number a.place
  marks_refused (refused (table off answer) is) left = absurd (off (accepted_answer accepted answer))
  marks_refused (refused {number} {place} (marks good unfit) is) left =
      subst (λ (x : Answer). Unfit 10 (privileges ws) ms x.number x.place) (sym is) unfit
  marks_refused (judged policy verdict is) left = absurd (left (ap (λ (x : Answer). x.number) is))

module _ {ws ms : List ℕ} (policy : Policy ws ms) where
  -- V marks, at most 4,096
  pub few : length ms ≤ 4096
  few = omega (arith, policy.fit.size, (facts policy.accepted).privileges_few)

  front : {n after : List ℕ} (lent : List ℕ) → length n ≡ privileges ws → after ≡ n ++ drop (privileges ws) lent → n ≡ take (length ms) after
  front {n} {after} lent size is = sym (ap (take (length ms)) is ∙ take_at n (drop (privileges ws) lent) (length ms) (size ∙ sym policy.fit.size))

  -- a result of 4,096 bytes was lent
  module _ {lent after : List ℕ} {a : Answer} (room : length lent ≡ 4096) where
    pub completed : completing.CompleteAnswer ws ms lent a after → a.number ≡ 0 → LeastCompletion ws ms (take (length ms) after)
    completed (completing.refused why is same) done = absurd (policy_not policy why)
    completed (completing.short p less is same) done = absurd (omega (arith, policy.fit.size, few))
    completed (completing.none p enough never first is same) done = absurd (omega (arith, done, ap (λ (x : Answer). x.number) is))
    completed (completing.given p enough least is same) done = subst (λ (n : List ℕ). LeastCompletion ws ms n) (front lent least.completes.size same) least

    pub mended : mending.MendAnswer ws ms lent a after → Mends ws ms (take (length ms) after) a.count
    mended (mending.refused why is same) = absurd (policy_not policy why)
    mended (mending.short p less is same) = absurd (omega (arith, policy.fit.size, few))
    mended (mending.mended {n} {count} p enough mends is same) =
        let size : length n ≡ privileges ws = (mends_lowered mends).size ∙ policy.fit.size in
        subst (λ (m : List ℕ). Mends ws ms m a.count) (front lent size same) (subst (λ (c : ℕ). Mends ws ms n c) (sym (ap (λ (x : Answer). x.count) is)) mends)

  module _ {lent after : List ℕ} (room : length lent ≡ 4096) where
    pub none_completed : (r : Rejection) → completing.CompleteAnswer ws ms lent (rejection_answer r) after → (n : List ℕ) → ¬ Completes ws ms n
    none_completed r (completing.refused why is same) = absurd (policy_not policy why)
    none_completed r (completing.short p less is same) = absurd (omega (arith, policy.fit.size, few))
    none_completed r (completing.none p enough never first is same) = never
    none_completed r (completing.given p enough least is same) = absurd (rejection_not r (ap (λ (x : Answer). x.number) is))

    pub mends_it : (r : Result ℕ Refusal) → mending.MendAnswer ws ms lent (counted_answer r) after → IsOk r
    mends_it r (mending.refused why is same) = absurd (policy_not policy why)
    mends_it r (mending.short p less is same) = absurd (omega (arith, policy.fit.size, few))
    mends_it (Ok count) (mending.mended p enough mends is same) = refl
    mends_it (Err r) (mending.mended p enough mends is same) = absurd (refusal_not r (ap (λ (x : Answer). x.number) is))

  -- their digits are bytes
  pub completed_raisable : {n : List ℕ} → LeastCompletion ws ms n → Raisable 48 n
  completed_raisable {n} least k h = go (least.completes.decided k (omega (arith, least.completes.size)))
    where
      go : (get_or n k 0 ≡ 1) ⊎ (get_or n k 0 ≡ 2) → get_or n k 0 + 48 < 256
      go (inl e) = omega arith
      go (inr e) = omega arith

  pub mended_raisable : {n : List ℕ} {count : ℕ} → Mends ws ms n count → Raisable 48 n
  mended_raisable {n} mends k h =
      let kept = mends_lowered mends in
      go (policy.fit.legal k (omega (arith, kept.size, policy.fit.size))) (kept.each k)
    where
      go : get_or ms k 0 ≤ 2 → (get_or n k 0 ≡ get_or ms k 0) ⊎ ((get_or ms k 0 ≡ 1) × (get_or n k 0 ≡ 2)) → get_or n k 0 + 48 < 256
      go l (inl e) = omega arith
      go l (inr (a, b)) = omega arith
