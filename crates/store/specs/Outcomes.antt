-- What a call answers to a program in another language: nine numbers, and a chain with its length (document 01, "Numbers of the answers and their order";
-- document 02, orders 8 and 6). Assumes nothing.
use Rattle.std.specs.Prelude.{ℕ, ◌≡◌, Result}
use Rattle.table.specs.Refusals.{number_in, place_in}
use Rattle.table.specs.declared.refusal.Refusal.{Refusal}
use Rattle.verdict.specs.Breaches.{condition_number}
use Rattle.verdict.specs.Answers.{refusal}
use Rattle.verdict.specs.declared.Answer.{Answer}
use Rattle.store.specs.declared.Outcome.{Outcome}

-- the condition by its number, all else as the answer has it
abbrev pub outcome_of : Answer → Outcome
outcome_of a = record {
  number = a.number;
  place = a.place;
  count = a.count;
  condition = condition_number a.breach.condition;
  element = a.breach.element;
  i = a.breach.i;
  j = a.breach.j;
  privilege = a.breach.privilege;
  forbidden = a.breach.forbidden;
  length = a.breach.length;
  chain = a.breach.chain;
}

-- of a call that gives a place
abbrev pub placed_answer : Result ℕ Refusal → Answer
placed_answer told = refusal (number_in told) (place_in told)

-- an answer that is a number and a place as promised, and else zeros
pub record Placed (Promised : ℕ → ℕ → Type 0) (a : Answer) : Type 0 where
  pub placed : Promised a.number a.place
  pub rest : a ≡ refusal a.number a.place

-- the outcome is that of an answer as promised
pub record Told (Promised : Answer → Type 0) (o : Outcome) : Type 0 where
  pub answer : Answer
  pub promised : Promised answer
  pub is : o ≡ outcome_of answer
