-- What a call answers (document 01, "Numbers of the answers and their order"), and what judging a policy answers. Assumes nothing.
use Rattle.std.specs.Prelude.{ℕ, ◌≡◌, List}
use Rattle.policy.specs.Marks.{NoPolicy, Policy}
use Rattle.verdict.specs.Breaches.{no_breach, Verdict}
use Rattle.verdict.specs.declared.Answer.{Answer}
use Rattle.verdict.specs.declared.Breach.{Breach}

-- a refusal: count 0, no breach
abbrev pub refusal : ℕ → ℕ → Answer
refusal number place = record { number = number; place = place; count = 0; breach = no_breach }

-- a done answer with a count: place 0, no breach
abbrev pub done : ℕ → Answer
done count = record { number = 0; place = 0; count = count; breach = no_breach }

-- number 16: a refusal with the breach
abbrev pub breached : Breach → Answer
breached b = record { number = 16; place = 0; count = 0; breach = b }

-- the verdict's breach is a result with number 0
abbrev pub verdict_of : Breach → Answer
verdict_of b = record { number = 0; place = 0; count = 0; breach = b }

pub data JudgeAnswer (ws marks : List ℕ) (a : Answer) : Type 0 where
  refused : {number place : ℕ} → NoPolicy ws marks number place → a ≡ refusal number place → JudgeAnswer ws marks a
  judged : {b : Breach} → Policy ws marks → Verdict ws marks b → a ≡ verdict_of b → JudgeAnswer ws marks a
