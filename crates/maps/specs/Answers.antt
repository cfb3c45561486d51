-- What verdict, completion, mending and judging answer over two bit maps, and what the lent maps hold afterwards (document 02, order 7): "prove that they
-- agree with the mark bytes for every policy, refusals apart". Assumes nothing.
use Rattle.std.specs.Prelude.{ℕ, ◌≡◌, ◌≢◌, List, replicate}
use Rattle.table.specs.Privilege.{privileges}
use Rattle.verdict.specs.Answers.{refusal, JudgeAnswer}
use Rattle.verdict.specs.declared.Answer.{Answer}
use Rattle.completion.specs.Answers.{CompleteAnswer}
use Rattle.mending.specs.Answers.{MendAnswer}
use Rattle.proposing.specs.Answers.{ProposeAnswer}
use Rattle.pairs.specs.Maps.{Maps, maps_of, Paired, Unpaired, MapPolicy, NoMaps, marks_for, Roomy, before}

-- the verdict is that of the marks
pub data JudgeMapsAnswer (ws : List ℕ) (m : Maps) (a : Answer) : Type 0 where
  refused : {number place : ℕ} → NoMaps ws m number place → a ≡ refusal number place → JudgeMapsAnswer ws m a
  agrees : MapPolicy ws m → JudgeAnswer ws (marks_for ws m) a → JudgeMapsAnswer ws m a

-- so is what judging a proposed pair answers: "a proposed pair gives 13 for its length and 14 for either fault, 23's first"
pub data ProposeMapsAnswer (ws : List ℕ) (m proposed : Maps) (a : Answer) : Type 0 where
  refused : {number place : ℕ} → NoMaps ws m number place → a ≡ refusal number place → ProposeMapsAnswer ws m proposed a
  unpaired : {number place : ℕ} → MapPolicy ws m → Unpaired 13 14 14 (privileges ws) proposed number place → a ≡ refusal number place
      → ProposeMapsAnswer ws m proposed a
  agrees : MapPolicy ws m → Paired (privileges ws) proposed → ProposeAnswer ws (marks_for ws m) (marks_for ws proposed) a → ProposeMapsAnswer ws m proposed a

-- v blank marks
abbrev pub blank : ℕ → List ℕ
blank v = replicate v 0

-- A call that writes marks, over maps. It answers what the call on the marks answers, with V blank marks lent as its result; where that is done, the lent maps
-- hold the maps of the marks that it wrote
pub data ResultAnswer (Call : List ℕ → List ℕ → Answer → List ℕ → Type 0) (ws : List ℕ) (m out : Maps) (a : Answer) (after : Maps) : Type 0 where
  refused : {number place : ℕ} → NoMaps ws m number place → a ≡ refusal number place → after ≡ out → ResultAnswer Call ws m out a after
  -- 12
  short : MapPolicy ws m → ¬ Roomy (privileges ws) out → a ≡ refusal 12 0 → after ≡ out → ResultAnswer Call ws m out a after
  kept : {n : List ℕ} → MapPolicy ws m → Roomy (privileges ws) out → Call (marks_for ws m) (blank (privileges ws)) a n → a.number ≢ 0 → after ≡ out
      → ResultAnswer Call ws m out a after
  written : {n : List ℕ} → MapPolicy ws m → Roomy (privileges ws) out → Call (marks_for ws m) (blank (privileges ws)) a n → a.number ≡ 0
      → after ≡ before (maps_of n) out → ResultAnswer Call ws m out a after

abbrev pub CompleteMapsAnswer : List ℕ → Maps → Maps → Answer → Maps → Type 0
CompleteMapsAnswer ws = ResultAnswer (CompleteAnswer ws) ws

abbrev pub MendMapsAnswer : List ℕ → Maps → Maps → Answer → Maps → Type 0
MendMapsAnswer ws = ResultAnswer (MendAnswer ws) ws
