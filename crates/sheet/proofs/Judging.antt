-- A role of the sheet, as the single call judges it. Assumes nothing.
use Rattle.std.proofs.Common.{ℕ, ◌≡◌, sym, ap, ◌∙◌, ◌≢◌, List, length}
use Rattle.table.specs.Privilege.{privileges}
use Rattle.table.specs.Check.{Accepted}
use Rattle.table.proofs.Answers.{accepted_answer}
use Rattle.policy.specs.Marks.{table, marks, length_off, mark_above}
use Rattle.policy.proofs.Policies.{policy_not, refused_number}
use Rattle.verdict.specs.Conditions.{Clean}
use Rattle.verdict.specs.Breaches.{spot_of, no_breach, clean, broken}
use Rattle.verdict.specs.Answers.{verdict_of, JudgeAnswer, refused, judged}
use Rattle.verdict.specs.declared.Answer.{Answer}
use Rattle.verdict.specs.declared.Condition.TheVariants.{None}
use Rattle.verdict.proofs.Firsts.{clean_none, verdict_clean, verdict_broken}
use Rattle.broken.specs.Breaks.{Breaks}
use Rattle.broken.proofs.Breaks.{first_breaks}
use Rattle.sheet.specs.Sheets.{RefusedRole, Has}

module _ {ws m : List ℕ} {a : Answer} (answer : JudgeAnswer ws m a) where
  number : {b : Answer} → a ≡ b → a.number ≡ b.number
  number e = ap (λ (c : Answer). c.number) e

  condition : {b : Answer} → a ≡ b → a.breach.condition ≡ b.breach.condition
  condition e = ap (λ (c : Answer). c.breach.condition) e

  -- judged, with no breach: it counts as clean
  pub judged_clean : a.number ≡ 0 → a.breach.condition ≡ None → Has ws (Clean ws) m
  judged_clean z k = go answer
    where
      go : JudgeAnswer ws m a → Has ws (Clean ws) m
      go (refused n e) = absurd (refused_number n (sym (number e) ∙ z))
      go (judged p v e) = record { fit = p.fit; has = verdict_clean ws m v (sym (condition e) ∙ k) }

  -- with a breach: it counts as one that breaks that condition
  pub judged_breaks : a.number ≡ 0 → a.breach.condition ≢ None → Has ws (Breaks ws a.breach.condition) m
  judged_breaks z d = go answer
    where
      go : JudgeAnswer ws m a → Has ws (Breaks ws a.breach.condition) m
      go (refused n e) = absurd (refused_number n (sym (number e) ∙ z))
      go (judged p v e) = record { fit = p.fit; has = rw (condition e) (first_breaks (verdict_broken ws m v (λ k. d (condition e ∙ k)))) }

  -- one that counts as clean is judged without a breach
  pub clean_judged : Accepted ws → Has ws (Clean ws) m → a ≡ verdict_of no_breach
  clean_judged t c = go answer
    where
      go : JudgeAnswer ws m a → a ≡ verdict_of no_breach
      go (refused n e) = absurd (policy_not (record { accepted = t; fit = c.fit }) n)
      go (judged p (clean q f) e) = e ∙ ap verdict_of f
      go (judged {b = b} p (broken f) e) = absurd (clean_none ws m c.has (spot_of b) b.privilege f.breach)

  -- of V marks, one that counts as refused gets number 11
  pub refused_judged : Accepted ws → length m ≡ privileges ws → RefusedRole ws m → a.number ≡ 11
  refused_judged t s d = go answer
    where
      go : JudgeAnswer ws m a → a.number ≡ 11
      go (refused (table f u) e) = absurd (f (accepted_answer t u))
      go (refused (marks b (length_off f n z)) e) = absurd (f s)
      go (refused (marks b (mark_above l n h)) e) = number e ∙ n
      go (judged p v e) = absurd (d p.fit)
