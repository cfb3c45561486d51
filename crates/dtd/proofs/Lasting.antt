-- From the answer for a table to the answer for its text's last part. Assumes nothing.
use Rattle.std.proofs.Common.{ℕ, ◌≤◌, ◌<◌, ◌≡◌, refl, ◌∙◌, subst, ◌≢◌, List, arith, set, Ok, Err}
use Rattle.table.specs.declared.check.Check.{Check}
use Rattle.table.specs.declared.check.Check.TheVariants.{Format, Layout, Kind, Count, Stretch, Bounds, Twice, Cycle, Unreached, Total as Whole}
use Rattle.table.specs.Check.{number_of, TableAnswer, refused, accepted}
use Rattle.grammar.specs.Tree.{Declaration}
use Rattle.model.specs.Tables.{table_of}
use Rattle.model.proofs.Counts.{wide_refused}
use Rattle.dtd.specs.Answer.{KnownFormat}
use Rattle.dtd.specs.Steps.Last.{Last, last_refused, Small, TotalRead}
use Rattle.dtd.proofs.Finishing.{blank, totalled, types_are, same_types, same_count}

-- a check's number is neither 0 nor 12
pub check_number : (c : Check) → (1 ≤ number_of c) × (number_of c ≢ 12)
check_number Format = (omega arith, λ e. omega arith)
check_number Layout = (omega arith, λ e. omega arith)
check_number Kind = (omega arith, λ e. omega arith)
check_number Count = (omega arith, λ e. omega arith)
check_number Stretch = (omega arith, λ e. omega arith)
check_number Bounds = (omega arith, λ e. omega arith)
check_number Twice = (omega arith, λ e. omega arith)
check_number Cycle = (omega arith, λ e. omega arith)
check_number Unreached = (omega arith, λ e. omega arith)
check_number Whole = (omega arith, λ e. omega arith)

module _ {ws out : List ℕ} {n p : ℕ} where
  pub table_refused : TableAnswer ws n p → 0 < n → Last ws out n p out
  table_refused (refused c e r) h = last_refused c e r refl
  table_refused (accepted e q a) h = absurd (omega arith)

-- a table whose word 7 is still 0
module _ (format : ℕ) (ds : List Declaration) {out : List ℕ} where
  pub too_wide : {t : ℕ} → KnownFormat format → Small ds → TotalRead (blank format ds) (Err (record { element = t })) → Last (table_of format ds) out 4 t out
  too_wide {t} known s x =
      let w = table_of format ds in
      last_refused Count refl (wide_refused format ds t known s.some s.types_few s.kids_few (omega (arith, x.0, same_types w 0, types_are format ds)) (omega (arith, x.1, same_count w 0 t)) (λ j h. omega (arith, x.2 j h, same_count w 0 j))) refl

  pub with_total : {v n p : ℕ} {full after : List ℕ} → TotalRead (blank format ds) (Ok v) → full ≡ set (blank format ds) 7 v → Last full out n p after
      → Last (table_of format ds) out n p after
  with_total {v} {n} {p} {full} {after} x f y = subst (λ (l : List ℕ). Last l out n p after) (f ∙ totalled format ds v x.0) y
