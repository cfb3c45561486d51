-- What checking all that is read answers, by its number; and what is read of an accepted table. Assumes nothing.
use Rattle.std.proofs.Common.{◌≡◌, ◌≢◌, ◌⊎◌, ℕ, ◌≤◌, ◌<◌, List, get_or, refl, ◌∙◌, inl, inr, arith}
use Rattle.table.specs.Privilege.{privileges}
use Rattle.table.specs.Check.{number_of, Accepted, TableAnswer, refused, accepted}
use Rattle.table.specs.declared.check.Check.{Check}
use Rattle.table.specs.declared.check.Check.TheVariants.{Format, Layout, Kind, Count, Stretch, Bounds, Twice, Cycle, Unreached, Total}
use Rattle.table.specs.Refusals as refusals
use Rattle.table.specs.declared.refusal.Refusal.{Refusal}
use Rattle.table.specs.declared.refusal.Refusal.TheVariants.{Table, NewTable, MarksLength, NoPrivilege, Mark, ResultLength, ProposedLength, ProposedMark, ProposedSpareBit, Change, NumbersLength, NewNumber, NoText, TooLarge, Misnamed, BothSet, SpareBit, NoLine, NotAbove, RefusedSheet, SumTooLarge}
use Rattle.table.proofs.Answers.{refusal_not}
use Rattle.policy.specs.Marks.{Policy}
use Rattle.carry.specs.Carries.{Move}
use Rattle.carry.specs.Answers.{NoMove, no_table}
use Rattle.carry.specs.Steps.Using.{MoveAnswer, stays, moves}

number_range : (c : Check) → (number_of c ≤ 9) ⊎ (number_of c ≡ 19)
number_range Format = inl (omega arith)
number_range Layout = inl (omega arith)
number_range Kind = inl (omega arith)
number_range Count = inl (omega arith)
number_range Stretch = inl (omega arith)
number_range Bounds = inl (omega arith)
number_range Twice = inl (omega arith)
number_range Cycle = inr refl
number_range Unreached = inl (omega arith)
number_range Total = inl (omega arith)

-- other numbers are not a table's
no_check : {ws : List ℕ} {n p : ℕ} → TableAnswer ws n p → 9 < n → n ≢ 19 → ⊥
no_check (refused c e r) l d = elim (number_range c) [ inl h ↦ omega arith | inr h ↦ d (e ∙ h) ]
no_check (accepted e v a) l d = omega arith

-- what is wrong with the new table is told as its own
module _ {old marks new numbers : List ℕ} (pol : Policy old marks) where
  pub table_refused : (r s : Refusal) → TableAnswer new (refusals.number_of r) (refusals.place_of r) → ((c : Check) (place : ℕ) → r ≡ Table c place → s ≡ NewTable c place)
      → MoveAnswer old marks new numbers (refusals.number_of s) (refusals.place_of s)
  table_refused (Table c place) s t told = rw (told c place refl) (stays (λ e. omega arith) (no_table pol (refusal_not (Table c place)) t refl))
  table_refused (NewTable c place) s t told = absurd (no_check t (omega arith) (λ e. omega arith))
  table_refused MarksLength s t told = absurd (no_check t (omega arith) (λ e. omega arith))
  table_refused NoPrivilege s t told = absurd (no_check t (omega arith) (λ e. omega arith))
  table_refused (Mark p) s t told = absurd (no_check t (omega arith) (λ e. omega arith))
  table_refused ResultLength s t told = absurd (no_check t (omega arith) (λ e. omega arith))
  table_refused ProposedLength s t told = absurd (no_check t (omega arith) (λ e. omega arith))
  table_refused (ProposedMark p) s t told = absurd (no_check t (omega arith) (λ e. omega arith))
  table_refused ProposedSpareBit s t told = absurd (no_check t (omega arith) (λ e. omega arith))
  table_refused (Change p) s t told = absurd (no_check t (omega arith) (λ e. omega arith))
  table_refused NumbersLength s t told = absurd (no_check t (omega arith) (λ e. omega arith))
  table_refused (NewNumber x) s t told = absurd (no_check t (omega arith) (λ e. omega arith))
  table_refused (NoText k) s t told = absurd (no_check t (omega arith) (λ e. omega arith))
  table_refused (TooLarge k) s t told = absurd (no_check t (omega arith) (λ e. omega arith))
  table_refused (Misnamed k) s t told = absurd (no_check t (omega arith) (λ e. omega arith))
  table_refused (BothSet p) s t told = absurd (no_check t (omega arith) (λ e. omega arith))
  table_refused SpareBit s t told = absurd (no_check t (omega arith) (λ e. omega arith))
  table_refused (NoLine k) s t told = absurd (no_check t (omega arith) (λ e. omega arith))
  table_refused (NotAbove k) s t told = absurd (no_check t (omega arith) (λ e. omega arith))
  table_refused (RefusedSheet k) s t told = absurd (no_check t (omega arith) (λ e. omega arith))
  table_refused (SumTooLarge p) s t told = absurd (no_check t (omega arith) (λ e. omega arith))

-- word 7 is V
pub stated : {ws : List ℕ} → Accepted ws → get_or ws 7 0 ≡ privileges ws
stated a = (a.passes Total 0 (omega arith)).stated

module _ {old marks new numbers : List ℕ} {n p : ℕ} where
  -- by its number
  pub move_refused : n ≢ 0 → MoveAnswer old marks new numbers n p → NoMove old marks new numbers n p
  move_refused d (stays e r) = r
  move_refused d (moves m e) = absurd (d e)

  pub move_fits : n ≡ 0 → MoveAnswer old marks new numbers n p → Move old marks new numbers
  move_fits e (stays d r) = absurd (d e)
  move_fits e (moves m f) = m
