-- Each call over maps has one outcome, and agrees with the call on the marks that the maps spell, whatever run is lent to that as its result. Assumes nothing.
use Prim.Native.Nat.{ℕ}
use mathlib.Core.Path.{◌≡◌, sym, ap, ◌∙◌}
use mathlib.Core.List.{List}
use Rattle.verdict.specs.declared.Answer.{Answer}
use Rattle.verdict.proofs.Judged.{refusal_one, judge_one}
use Rattle.completion.proofs.Completing.{complete_one}
use Rattle.mending.proofs.Answered.{mend_one}
use Rattle.proposing.proofs.Answered.{propose_one}
use Rattle.pairs.specs.Maps.{Maps, maps_of, before}
use Rattle.maps.specs.Answers.{JudgeMapsAnswer, ProposeMapsAnswer, unpaired, ResultAnswer, short, kept, written, CompleteMapsAnswer, MendMapsAnswer}
use Rattle.pairs.proofs.Paired.{maps_not, no_maps_one, paired_not, unpaired_one}

module _ {ws : List ℕ} {m : Maps} where
  pub judge_maps_one : {a b : Answer} → JudgeMapsAnswer ws m a → JudgeMapsAnswer ws m b → a ≡ b
  judge_maps_one (JudgeMapsAnswer.refused n e) (JudgeMapsAnswer.refused o f) = e ∙ refusal_one (no_maps_one n o) ∙ sym f
  judge_maps_one (JudgeMapsAnswer.refused n e) (JudgeMapsAnswer.agrees p j) = absurd (maps_not p n)
  judge_maps_one (JudgeMapsAnswer.agrees p j) (JudgeMapsAnswer.refused o f) = absurd (maps_not p o)
  judge_maps_one (JudgeMapsAnswer.agrees p j) (JudgeMapsAnswer.agrees q k) = judge_one j k

  pub propose_maps_one : {proposed : Maps} {a b : Answer} → ProposeMapsAnswer ws m proposed a → ProposeMapsAnswer ws m proposed b → a ≡ b
  propose_maps_one (ProposeMapsAnswer.refused n e) (ProposeMapsAnswer.refused o f) = e ∙ refusal_one (no_maps_one n o) ∙ sym f
  propose_maps_one (ProposeMapsAnswer.refused n e) (unpaired p u f) = absurd (maps_not p n)
  propose_maps_one (ProposeMapsAnswer.refused n e) (ProposeMapsAnswer.agrees p w j) = absurd (maps_not p n)
  propose_maps_one (unpaired p u e) (ProposeMapsAnswer.refused o f) = absurd (maps_not p o)
  propose_maps_one (unpaired p u e) (unpaired q t f) = e ∙ refusal_one (unpaired_one u t) ∙ sym f
  propose_maps_one (unpaired p u e) (ProposeMapsAnswer.agrees q w j) = absurd (paired_not w u)
  propose_maps_one (ProposeMapsAnswer.agrees p w j) (ProposeMapsAnswer.refused o f) = absurd (maps_not p o)
  propose_maps_one (ProposeMapsAnswer.agrees p w j) (unpaired q u f) = absurd (paired_not w u)
  propose_maps_one (ProposeMapsAnswer.agrees p w j) (ProposeMapsAnswer.agrees q t k) = propose_one j k

-- a call that writes marks and has one outcome has one over maps
module _ {Call : List ℕ → List ℕ → Answer → List ℕ → Type 0}
    (one : (marks out x y : List ℕ) (a b : Answer) → Call marks out a x → Call marks out b y → (a ≡ b) × (x ≡ y)) {ws : List ℕ} {m out : Maps} where
  pub result_one : {a b : Answer} {x y : Maps} → ResultAnswer Call ws m out a x → ResultAnswer Call ws m out b y → (a ≡ b) × (x ≡ y)
  result_one (ResultAnswer.refused n e k) (ResultAnswer.refused o f l) = (e ∙ refusal_one (no_maps_one n o) ∙ sym f, k ∙ sym l)
  result_one (ResultAnswer.refused n e k) (short p d f l) = absurd (maps_not p n)
  result_one (ResultAnswer.refused n e k) (kept p r c d l) = absurd (maps_not p n)
  result_one (ResultAnswer.refused n e k) (written p r c z l) = absurd (maps_not p n)
  result_one (short p d e k) (ResultAnswer.refused o f l) = absurd (maps_not p o)
  result_one (short p d e k) (short q g f l) = (e ∙ sym f, k ∙ sym l)
  result_one (short p d e k) (kept q r c g l) = absurd (d r)
  result_one (short p d e k) (written q r c z l) = absurd (d r)
  result_one (kept p r c d k) (ResultAnswer.refused o f l) = absurd (maps_not p o)
  result_one (kept p r c d k) (short q g f l) = absurd (g r)
  result_one (kept p r c d k) (kept q s e f l) = ((one _ _ _ _ _ _ c e).0, k ∙ sym l)
  result_one (kept p r c d k) (written q s e z l) = absurd (d (ap (λ (t : Answer). t.number) (one _ _ _ _ _ _ c e).0 ∙ z))
  result_one (written p r c z k) (ResultAnswer.refused o f l) = absurd (maps_not p o)
  result_one (written p r c z k) (short q g f l) = absurd (g r)
  result_one (written p r c z k) (kept q s e d l) = absurd (d (ap (λ (t : Answer). t.number) (sym (one _ _ _ _ _ _ c e).0) ∙ z))
  result_one (written p r c z k) (written q s e y l) = let o = one _ _ _ _ _ _ c e in (o.0, k ∙ ap (λ (t : List ℕ). before (maps_of t) out) o.1 ∙ sym l)

pub complete_maps_one : {ws : List ℕ} {m out x y : Maps} {a b : Answer} → CompleteMapsAnswer ws m out a x → CompleteMapsAnswer ws m out b y → (a ≡ b) × (x ≡ y)
complete_maps_one = result_one (λ marks out x y a b. complete_one)

pub mend_maps_one : {ws : List ℕ} {m out x y : Maps} {a b : Answer} → MendMapsAnswer ws m out a x → MendMapsAnswer ws m out b y → (a ≡ b) × (x ≡ y)
mend_maps_one = result_one (λ marks out x y a b. mend_one)
