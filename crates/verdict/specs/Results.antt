-- The answer, as numbers, of what a call gives: a refusal has its number and its place, a breach that refuses is number 16. Assumes nothing.
use Rattle.std.specs.Prelude.{ℕ, Result, Ok, Err}
use Rattle.table.specs.Refusals.{number_of, place_of}
use Rattle.table.specs.declared.refusal.Refusal.{Refusal}
use Rattle.verdict.specs.Answers.{refusal, done, breached, verdict_of}
use Rattle.verdict.specs.declared.Answer.{Answer}
use Rattle.verdict.specs.declared.Breach.{Breach}
use Rattle.verdict.specs.declared.Rejection.{Rejection}
use Rattle.verdict.specs.declared.Rejection.TheVariants.{Refused, Broken}

abbrev pub refusal_answer : Refusal → Answer
refusal_answer r = refusal (number_of r) (place_of r)

abbrev pub rejection_answer : Rejection → Answer
rejection_answer (Refused r) = refusal_answer r
rejection_answer (Broken b) = breached b

-- of a verdict
abbrev pub judged_answer : Result Breach Refusal → Answer
judged_answer (Ok b) = verdict_of b
judged_answer (Err r) = refusal_answer r

-- of a call that counts
abbrev pub counted_answer : Result ℕ Refusal → Answer
counted_answer (Ok n) = done n
counted_answer (Err r) = refusal_answer r

-- of one that counts nothing
abbrev pub done_answer : {A : Type 0} → Result A Refusal → Answer
done_answer (Ok _) = done 0
done_answer (Err r) = refusal_answer r

-- the same of calls that a breach refuses
abbrev pub accepted_answer : Result ℕ Rejection → Answer
accepted_answer (Ok n) = done n
accepted_answer (Err r) = rejection_answer r

abbrev pub completed_answer : {A : Type 0} → Result A Rejection → Answer
completed_answer (Ok _) = done 0
completed_answer (Err r) = rejection_answer r
