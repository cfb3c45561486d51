-- One text is printed for a file. Assumes nothing.
use Rattle.std.proofs.Common.{ℕ, ◌≡◌, sym, ap, ◌∙◌, List, [], ◌∷◌, ◌++◌, arith}
use Rattle.table.specs.Privilege.{privileges}
use Rattle.table.proofs.Answers.{answer_one, accepted_answer}
use Rattle.verdict.specs.declared.Breach.{Breach}
use Rattle.policy.proofs.Policies.{fit_not, unfit_one}
use Rattle.verdict.proofs.Firsts.{verdict_one}
use Rattle.completion.proofs.Least.{least_one}
use Rattle.mending.proofs.Mended.{mends_one}
use Rattle.lines.specs.Text.{line}
use Rattle.report.specs.File.{table_of}
use Rattle.report.specs.Report.{table_word, marks_word, verdict_word, complete_word, mended_word, answer_line, numbers_of, VerdictLine, CompleteLine, MendedLine, PolicyLines, Report}

answers : {n m p q : ℕ} (word : List ℕ) → (n ≡ m) × (p ≡ q) → answer_line word n p ≡ answer_line word m q
answers {n} {m} {p} {q} word (a, b) = ap (λ (x : ℕ). answer_line word x p) a ∙ ap (answer_line word m) b

module _ {ws ms : List ℕ} where
  verdicts : {a b : List ℕ} → VerdictLine ws ms a → VerdictLine ws ms b → a ≡ b
  verdicts (VerdictLine.judged v e) (VerdictLine.judged w f) = e ∙ ap (λ (x : Breach). line verdict_word (numbers_of x) []) (verdict_one ws ms v w) ∙ sym f

  completes : {a b : List ℕ} → CompleteLine ws ms a → CompleteLine ws ms b → a ≡ b
  completes (CompleteLine.none never e) (CompleteLine.none never' f) = e ∙ sym f
  completes (CompleteLine.none never e) (CompleteLine.given least f) = absurd (never _ least.completes)
  completes (CompleteLine.given least e) (CompleteLine.none never f) = absurd (never _ least.completes)
  completes (CompleteLine.given least e) (CompleteLine.given least' f) = e ∙ ap (line complete_word []) (least_one least least') ∙ sym f

  mendeds : {a b : List ℕ} → MendedLine ws ms a → MendedLine ws ms b → a ≡ b
  mendeds (MendedLine.mended {count = c} m e) (MendedLine.mended {n = o} k f) =
      e
      ∙ ap (line mended_word (c ∷ [])) (mends_one m k).0
      ∙ ap (λ (x : ℕ). line mended_word (x ∷ []) o) (mends_one m k).1
      ∙ sym f

  policies : {a b : List ℕ} → PolicyLines ws ms a → PolicyLines ws ms b → a ≡ b
  policies (PolicyLines.refused u e) (PolicyLines.refused v f) = e ∙ answers marks_word (unfit_one u v) ∙ sym f
  policies (PolicyLines.refused u e) (PolicyLines.judged p x y z f) = absurd (fit_not p.fit u)
  policies (PolicyLines.judged p x y z e) (PolicyLines.refused v f) = absurd (fit_not p.fit v)
  policies (PolicyLines.judged {b = b} {c = c} p x y z e) (PolicyLines.judged {a = a'} {b = b'} q x' y' z' f) =
      e
      ∙ ap (λ (t : List ℕ). t ++ b ++ c) (verdicts x x')
      ∙ ap (λ (t : List ℕ). a' ++ t ++ c) (completes y y')
      ∙ ap (λ (t : List ℕ). a' ++ b' ++ t) (mendeds z z')
      ∙ sym f

pub report_one : {file a b : List ℕ} → Report file a → Report file b → a ≡ b
report_one (Report.long h e) (Report.long k f) = e ∙ sym f
report_one (Report.long h e) (Report.refused k off answer f) = absurd (omega arith)
report_one (Report.long h e) (Report.accepted k good rest f) = absurd (omega arith)
report_one (Report.refused h off answer e) (Report.long k f) = absurd (omega arith)
report_one (Report.refused h off answer e) (Report.refused k off' answer' f) = e ∙ answers table_word (answer_one answer answer') ∙ sym f
report_one (Report.refused h off answer e) (Report.accepted k good rest f) = absurd (off (accepted_answer good answer))
report_one (Report.accepted h good rest e) (Report.long k f) = absurd (omega arith)
report_one (Report.accepted h good rest e) (Report.refused k off answer f) = absurd (off (accepted_answer good answer))
report_one {file} (Report.accepted h good rest e) (Report.accepted k good' rest' f) =
    e ∙ ap (λ (t : List ℕ). answer_line table_word 0 (privileges (table_of file)) ++ t) (policies rest rest') ∙ sym f
