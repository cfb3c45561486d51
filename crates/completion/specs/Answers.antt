-- What completing a policy answers, and what the lent result holds afterwards (demand 3; document 01, "Numbers of the answers and their
-- order"). Assumes nothing.
use Rattle.std.specs.Prelude.{ℕ, ◌≤◌, ◌<◌, ◌≡◌, List, ◌++◌, length, drop}
use Rattle.table.specs.Privilege.{privileges}
use Rattle.policy.specs.Marks.{NoPolicy, Policy}
use Rattle.verdict.specs.Breaches.{FirstBreach}
use Rattle.verdict.specs.Answers.{refusal, breached, done}
use Rattle.verdict.specs.declared.Answer.{Answer}
use Rattle.verdict.specs.declared.Breach.{Breach}
use Rattle.completion.specs.Completions.{Completes, LeastCompletion}

-- out is what was lent, after what it holds then
pub data CompleteAnswer (ws marks out : List ℕ) (a : Answer) (after : List ℕ) : Type 0 where
  -- 1 to 11, and 19
  refused : {number place : ℕ} → NoPolicy ws marks number place → a ≡ refusal number place → after ≡ out → CompleteAnswer ws marks out a after
  -- 12
  short : Policy ws marks → length out < privileges ws → a ≡ refusal 12 0 → after ≡ out → CompleteAnswer ws marks out a after
  -- 16: no fully decided policy that keeps the set marks passes
  none : {b : Breach} → Policy ws marks → privileges ws ≤ length out → ((n : List ℕ) → ¬ Completes ws marks n) → FirstBreach ws marks b
      → a ≡ breached b → after ≡ out → CompleteAnswer ws marks out a after
  -- the least such policy, and the rest of the result as it was
  given : {n : List ℕ} → Policy ws marks → privileges ws ≤ length out → LeastCompletion ws marks n → a ≡ done 0
      → after ≡ n ++ drop (privileges ws) out → CompleteAnswer ws marks out a after
