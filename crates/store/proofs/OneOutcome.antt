-- Each exported call has one outcome, and each lent result holds one run afterwards. Assumes nothing.
use Prim.Native.Nat.{ℕ}
use mathlib.Core.Path.{◌≡◌, sym, ap, ◌∙◌}
use mathlib.Core.List.{List}
use Rattle.table.specs.Check.{TableAnswer}
use Rattle.table.proofs.Answers.{answer_one}
use Rattle.verdict.specs.Answers.{JudgeAnswer}
use Rattle.verdict.specs.declared.Answer.{Answer}
use Rattle.verdict.proofs.Judged.{refusal_one, judge_one}
use Rattle.completion.specs.Answers.{CompleteAnswer}
use Rattle.completion.proofs.Completing.{complete_one}
use Rattle.dtd.specs.Answer.{DtdAnswer}
use Rattle.dtd.proofs.OneAnswer.{one_answer}
use Rattle.mail.specs.Answers.{WriteAnswer, ReadAnswer}
use Rattle.mail.proofs.One.{write_one, read_one}
use Rattle.mending.specs.Answers.{MendAnswer}
use Rattle.proposing.specs.Answers.{ProposeAnswer}
use Rattle.mending.proofs.Answered.{mend_one}
use Rattle.proposing.proofs.Answered.{propose_one}
use Rattle.roles.specs.Answers.{RolesAnswer}
use Rattle.roles.proofs.Roles.{roles_one}
use Rattle.pairs.specs.Maps.{Maps}
use Rattle.maps.specs.Answers.{JudgeMapsAnswer, ProposeMapsAnswer, CompleteMapsAnswer, MendMapsAnswer}
use Rattle.maps.proofs.Agreed.{judge_maps_one, propose_maps_one, complete_maps_one, mend_maps_one}
use Rattle.carry.specs.Answers.{CarryAnswer}
use Rattle.carry.proofs.Answers.{carry_one}
use Rattle.editing.specs.Answer.{EditAnswer}
use Rattle.editing.proofs.Answered.{edit_one}
use Rattle.store.specs.Outcomes.{outcome_of, Placed, Told}
use Rattle.store.specs.declared.Outcome.{Outcome}

-- one answer, one outcome
told_one : {P Q : Answer → Type 0} {o p : Outcome} → (s : Told P o) → (t : Told Q p) → s.answer ≡ t.answer → o ≡ p
told_one s t e = s.is ∙ ap outcome_of e ∙ sym t.is

-- one number and one place, one answer
placed_one : {P Q : ℕ → ℕ → Type 0} {a b : Answer} → Placed P a → Placed Q b → (a.number ≡ b.number) × (a.place ≡ b.place) → a ≡ b
placed_one c d one = c.rest ∙ refusal_one one ∙ sym d.rest

pub check_outcome : {ws : List ℕ} {o p : Outcome} → Told (Placed (TableAnswer ws)) o → Told (Placed (TableAnswer ws)) p → o ≡ p
check_outcome s t = told_one s t (placed_one s.promised t.promised (answer_one s.promised.placed t.promised.placed))

pub read_outcome : {text out x y : List ℕ} {o p : Outcome} → Told (Placed (λ n k. DtdAnswer text out 1 n k x)) o
    → Told (Placed (λ n k. DtdAnswer text out 1 n k y)) p → (o ≡ p) × (x ≡ y)
read_outcome s t =
    let one = one_answer s.promised.placed t.promised.placed in
    (told_one s t (placed_one s.promised t.promised (one.number, one.place)), one.after)

module _ {text out x y : List ℕ} {format : ℕ} {o p : Outcome} where
  pub write_outcome : {marks : List ℕ} → Told (Placed (λ n k. WriteAnswer text format marks out n k x)) o
      → Told (Placed (λ n k. WriteAnswer text format marks out n k y)) p → (o ≡ p) × (x ≡ y)
  write_outcome s t =
      let one = write_one s.promised.placed t.promised.placed in
      (told_one s t (placed_one s.promised t.promised (one.number, one.place)), one.after)

  pub listing_outcome : {listing : List ℕ} → Told (Placed (λ n k. ReadAnswer text format listing out n k x)) o
      → Told (Placed (λ n k. ReadAnswer text format listing out n k y)) p → (o ≡ p) × (x ≡ y)
  listing_outcome s t =
      let one = read_one s.promised.placed t.promised.placed in
      (told_one s t (placed_one s.promised t.promised (one.number, one.place)), one.after)

module _ {ws marks : List ℕ} {o p : Outcome} where
  pub judge_outcome : Told (JudgeAnswer ws marks) o → Told (JudgeAnswer ws marks) p → o ≡ p
  judge_outcome s t = told_one s t (judge_one s.promised t.promised)

  pub complete_outcome : {out x y : List ℕ} → Told (λ a. CompleteAnswer ws marks out a x) o → Told (λ a. CompleteAnswer ws marks out a y) p
      → (o ≡ p) × (x ≡ y)
  complete_outcome s t = let one = complete_one s.promised t.promised in (told_one s t one.0, one.1)

  pub roles_outcome : {numbers out i j x y : List ℕ} → Told (λ a. RolesAnswer ws marks numbers out a i x) o
      → Told (λ a. RolesAnswer ws marks numbers out a j y) p → (o ≡ p) × (i ≡ j) × (x ≡ y)
  roles_outcome s t = let one = roles_one s.promised t.promised in (told_one s t one.0, one.1, one.2)

  pub mend_outcome : {out x y : List ℕ} → Told (λ a. MendAnswer ws marks out a x) o → Told (λ a. MendAnswer ws marks out a y) p
      → (o ≡ p) × (x ≡ y)
  mend_outcome s t = let one = mend_one s.promised t.promised in (told_one s t one.0, one.1)

  pub propose_outcome : {proposed : List ℕ} → Told (ProposeAnswer ws marks proposed) o → Told (ProposeAnswer ws marks proposed) p → o ≡ p
  propose_outcome s t = told_one s t (propose_one s.promised t.promised)

module _ {ws : List ℕ} {m : Maps} {o p : Outcome} where
  pub judge_maps_outcome : Told (JudgeMapsAnswer ws m) o → Told (JudgeMapsAnswer ws m) p → o ≡ p
  judge_maps_outcome s t = told_one s t (judge_maps_one s.promised t.promised)

  pub complete_maps_outcome : {out x y : Maps} → Told (λ a. CompleteMapsAnswer ws m out a x) o → Told (λ a. CompleteMapsAnswer ws m out a y) p
      → (o ≡ p) × (x ≡ y)
  complete_maps_outcome s t = let one = complete_maps_one s.promised t.promised in (told_one s t one.0, one.1)

  pub mend_maps_outcome : {out x y : Maps} → Told (λ a. MendMapsAnswer ws m out a x) o → Told (λ a. MendMapsAnswer ws m out a y) p
      → (o ≡ p) × (x ≡ y)
  mend_maps_outcome s t = let one = mend_maps_one s.promised t.promised in (told_one s t one.0, one.1)

  pub propose_maps_outcome : {proposed : Maps} → Told (ProposeMapsAnswer ws m proposed) o → Told (ProposeMapsAnswer ws m proposed) p → o ≡ p
  propose_maps_outcome s t = told_one s t (propose_maps_one s.promised t.promised)

pub carry_outcome : {old marks new numbers out lost x l y k : List ℕ} {o p : Outcome} → Told (λ a. CarryAnswer old marks new numbers out lost a x l) o
    → Told (λ a. CarryAnswer old marks new numbers out lost a y k) p → (o ≡ p) × (x ≡ y) × (l ≡ k)
carry_outcome s t = let one = carry_one s.promised t.promised in (told_one s t one.0, one.1, one.2)

pub edit_outcome : {ws marks kept x k y l : List ℕ} {privilege mark : ℕ} {o p : Outcome} → Told (λ a. EditAnswer ws marks kept privilege mark a x k) o
    → Told (λ a. EditAnswer ws marks kept privilege mark a y l) p → (o ≡ p) × (x ≡ y) × (k ≡ l)
edit_outcome s t = let one = edit_one s.promised t.promised in (told_one s t one.0, one.1, one.2)
