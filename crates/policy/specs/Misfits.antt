-- The number and the place of what is wrong with marks: `first` for their length, the next one for a mark. Assumes nothing.
use Rattle.std.specs.Prelude.{ℕ, ◌+◌, Result, Ok, Err}
use Rattle.table.specs.declared.refusal.Refusal.{Refusal}
use Rattle.table.specs.declared.refusal.Refusal.TheVariants as refusal
use Rattle.policy.specs.declared.marks.Misfit.{Misfit}
use Rattle.policy.specs.declared.marks.Misfit.TheVariants.{Length, Mark}

-- of a policy's own marks: 10 and 11
abbrev pub refusal_of : Misfit → Refusal
refusal_of Length = refusal.MarksLength
refusal_of (Mark p) = refusal.Mark p

-- 0 where nothing is wrong
abbrev pub misfit_number : {A : Type 0} → ℕ → Result A Misfit → ℕ
misfit_number first (Ok _) = 0
misfit_number first (Err Length) = first
misfit_number first (Err (Mark p)) = first + 1

abbrev pub misfit_place : {A : Type 0} → Result A Misfit → ℕ
misfit_place (Ok _) = 0
misfit_place (Err Length) = 0
misfit_place (Err (Mark p)) = p
