-- What is wrong with proposed marks, by its refusal. Assumes nothing.
use Rattle.std.proofs.Common.{ℕ, List, Err, arith}
use Rattle.table.specs.Refusals.{number_of, place_of}
use Rattle.policy.specs.Marks.{Unfit}
use Rattle.policy.specs.Misfits.{misfit_number, misfit_place}
use Rattle.policy.specs.Steps.Checking.{MarksAnswer}
use Rattle.policy.specs.declared.marks.Misfit.{Misfit}
use Rattle.policy.specs.declared.marks.Misfit.TheVariants.{Length, Mark}
use Rattle.policy.proofs.Policies.{marks_refused}
use Rattle.proposing.specs.Misfits.{proposed_refusal}

pub proposed_unfit : {v : ℕ} {ms : List ℕ} (m : Misfit) → MarksAnswer 13 v ms (misfit_number {A = ℕ} 13 (Err m)) (misfit_place {A = ℕ} (Err m))
    → Unfit 13 v ms (number_of (proposed_refusal m)) (place_of (proposed_refusal m))
proposed_unfit Length a = marks_refused (omega arith) a
proposed_unfit (Mark p) a = marks_refused (omega arith) a
