-- Judging a proposed mend has one answer. Assumes nothing.
use Rattle.std.proofs.Common.{ℕ, ◌<◌, ◌≡◌, sym, ap, ◌∙◌, List}
use Rattle.table.specs.Lowest.{LowestAt}
use Rattle.table.proofs.Answers.{lowest_one}
use Rattle.table.proofs.HowMany.{many_one}
use Rattle.verdict.specs.Breaches.{spot_of}
use Rattle.verdict.specs.Answers.{refusal, breached}
use Rattle.verdict.specs.Answers as answers
use Rattle.verdict.specs.declared.Answer.{Answer}
use Rattle.policy.proofs.Policies.{refused_one, policy_not, fit_not, unfit_one}
use Rattle.verdict.proofs.Judged.{refusal_one}
use Rattle.verdict.proofs.Firsts.{first_one, clean_none}
use Rattle.proposing.specs.Answers.{ProposeAnswer, unfit, changed, broken, accepted}

-- one outcome of judging a proposed mend
not_kept : {Good : ℕ → Type 0} {v p : ℕ} → ((q : ℕ) → q < v → Good q) → ¬ LowestAt Good v p
not_kept {p = p} k l = l.fails (k p l.within)

pub propose_one : {ws marks proposed : List ℕ} {a b : Answer} → ProposeAnswer ws marks proposed a → ProposeAnswer ws marks proposed b → a ≡ b
propose_one (ProposeAnswer.refused n e) (ProposeAnswer.refused m f) = e ∙ refusal_one (refused_one n m) ∙ sym f
propose_one (ProposeAnswer.refused n e) (unfit p u f) = absurd (policy_not p n)
propose_one (ProposeAnswer.refused n e) (changed p t l f) = absurd (policy_not p n)
propose_one (ProposeAnswer.refused n e) (broken p t k g f) = absurd (policy_not p n)
propose_one (ProposeAnswer.refused n e) (accepted p t k q h f) = absurd (policy_not p n)
propose_one (unfit p u e) (ProposeAnswer.refused m f) = absurd (policy_not p m)
propose_one (unfit p u e) (unfit q w f) = e ∙ refusal_one (unfit_one u w) ∙ sym f
propose_one (unfit p u e) (changed q t l f) = absurd (fit_not t u)
propose_one (unfit p u e) (broken q t k g f) = absurd (fit_not t u)
propose_one (unfit p u e) (accepted q t k r h f) = absurd (fit_not t u)
propose_one (changed p t l e) (ProposeAnswer.refused m f) = absurd (policy_not p m)
propose_one (changed p t l e) (unfit q w f) = absurd (fit_not t w)
propose_one (changed p t l e) (changed q u k f) = e ∙ ap (refusal 15) (lowest_one l k) ∙ sym f
propose_one (changed p t l e) (broken q u k g f) = absurd (not_kept k l)
propose_one (changed p t l e) (accepted q u k r h f) = absurd (not_kept k l)
propose_one (broken p t k g e) (ProposeAnswer.refused m f) = absurd (policy_not p m)
propose_one (broken p t k g e) (unfit q w f) = absurd (fit_not t w)
propose_one (broken p t k g e) (changed q u l f) = absurd (not_kept k l)
propose_one {ws} {marks} {proposed} (broken p t k g e) (broken q u l h f) = e ∙ ap breached (first_one ws proposed g h) ∙ sym f
propose_one {ws} {marks} {proposed} (broken {b = b} p t k g e) (accepted q u l r h f) = absurd (clean_none ws proposed r (spot_of b) b.privilege g.breach)
propose_one (accepted p t k r h e) (ProposeAnswer.refused m f) = absurd (policy_not p m)
propose_one (accepted p t k r h e) (unfit q w f) = absurd (fit_not t w)
propose_one (accepted p t k r h e) (changed q u l f) = absurd (not_kept k l)
propose_one {ws} {marks} {proposed} (accepted p t k r h e) (broken {b = b} q u l g f) = absurd (clean_none ws proposed r (spot_of b) b.privilege g.breach)
propose_one (accepted p t k r h e) (accepted q u l s i f) = e ∙ ap answers.done (many_one h i) ∙ sym f
