-- What judging a proposed mend answers (document 01, "Numbers of the answers and their order"). Assumes nothing.
use Rattle.std.specs.Prelude.{ℕ, ◌<◌, ◌≡◌, List}
use Rattle.table.specs.Lowest.{LowestAt}
use Rattle.table.specs.HowMany.{HowMany}
use Rattle.table.specs.Privilege.{privileges}
use Rattle.policy.specs.Marks.{Fit, Unfit, NoPolicy, Policy}
use Rattle.verdict.specs.Conditions.{Clean}
use Rattle.verdict.specs.Breaches.{FirstBreach}
use Rattle.verdict.specs.Answers.{refusal, breached, done}
use Rattle.verdict.specs.declared.Answer.{Answer}
use Rattle.verdict.specs.declared.Breach.{Breach}
use Rattle.proposing.specs.Proposals.{Kept, Changed}

-- every proposed mark is equal, or went from 1 to 2
abbrev pub AllKept : List ℕ → List ℕ → List ℕ → Type 0
AllKept ws marks proposed = (p : ℕ) → p < privileges ws → Kept marks proposed p

pub data ProposeAnswer (ws marks proposed : List ℕ) (a : Answer) : Type 0 where
  -- 1 to 11, and 19
  refused : {number place : ℕ} → NoPolicy ws marks number place → a ≡ refusal number place → ProposeAnswer ws marks proposed a
  -- 13 and 14
  unfit : {number place : ℕ} → Policy ws marks → Unfit 13 (privileges ws) proposed number place → a ≡ refusal number place
      → ProposeAnswer ws marks proposed a
  -- 15
  changed : {place : ℕ} → Policy ws marks → Fit (privileges ws) proposed → LowestAt (Kept marks proposed) (privileges ws) place
      → a ≡ refusal 15 place → ProposeAnswer ws marks proposed a
  -- 16
  broken : {b : Breach} → Policy ws marks → Fit (privileges ws) proposed → AllKept ws marks proposed → FirstBreach ws proposed b
      → a ≡ breached b → ProposeAnswer ws marks proposed a
  -- accepted, with how many marks changed
  accepted : {count : ℕ} → Policy ws marks → Fit (privileges ws) proposed → AllKept ws marks proposed → Clean ws proposed
      → HowMany (Changed marks proposed) (privileges ws) count → a ≡ done count → ProposeAnswer ws marks proposed a
