-- The rows that a choice's marks were read into, when one of its marks is taken: one bit of each is the other one. Assumes nothing.
use Rattle.std.proofs.Common.{ℕ, ◌≤◌, ◌<◌, ◌≡◌, sym, ◌∙◌, ◌≢◌, ◌⊎◌, inl, inr, Bool, true, false, not, List, arith, length, get_or, set}
use native.Mathlib.Decide.{ℕ_discrete}
use Rattle.table.specs.Steps.Found.{Tells}
use Rattle.table.specs.Steps.Numbering.{replace_in, ReplaceableIn}
use Rattle.table.specs.declared.privilege.Numbering.{Numbering}
use Rattle.table.proofs.Lowest.{tells_as}
use Rattle.table.proofs.Privileges.{replace_in_one}
use Rattle.policy.specs.Steps.Squares.{marked, Square, MarkedIn, StepIn, Read, Toggled}
use Rattle.mending.proofs.Counting.{taken_here, taken_other}

module _ {m : List ℕ} {n : Numbering} {i k : ℕ} (narrow : n.gap ≤ 1) (step : StepIn m n i k) (low : replace_in n i k < length m) where
  abbrev taken : List ℕ
  taken = set m (replace_in n i k) 2

  -- every other replacement keeps its mark
  kept : {a b : ℕ} → ¬ ((a ≡ i) × (b ≡ k)) → ReplaceableIn n a b → get_or taken (replace_in n a b) 0 ≡ get_or m (replace_in n a b) 0
  kept {a} {b} d can = taken_other m (replace_in n i k) low (replace_in n a b) (λ e. d (replace_in_one n a b i k narrow can step.can e))

  other : (mark a b : ℕ) (r : Bool) → ¬ ((a ≡ i) × (b ≡ k)) → Tells (MarkedIn mark m n a b) r → Tells (MarkedIn mark taken n a b) r
  other mark a b r d =
      tells_as (λ s. record { can = s.can; is = kept d s.can ∙ s.is }) (λ s. record { can = s.can; is = sym (kept d s.can) ∙ s.is }) r

  rows_taken : {mark : ℕ} {rows new : List ℕ} → Square n.count (MarkedIn mark m n) rows → Toggled i k rows new
      → Tells (MarkedIn mark taken n i k) (not (marked rows i k)) → Square n.count (MarkedIn mark taken n) new
  rows_taken {mark} {rows} {new} s t now = record { size = t.size; tells = λ a b la lb. go a b la lb (ℕ_discrete a i) (ℕ_discrete b k) }
    where
      still : (a b : ℕ) → a < n.count → b < n.count → (a ≢ i) ⊎ (b ≢ k) → ¬ ((a ≡ i) × (b ≡ k)) → Tells (MarkedIn mark taken n a b) (marked new a b)
      still a b la lb o d = rw (t.rest a b o) (other mark a b (marked rows a b) d (s.tells a b la lb))

      go : (a b : ℕ) → a < n.count → b < n.count → Dec (a ≡ i) → Dec (b ≡ k) → Tells (MarkedIn mark taken n a b) (marked new a b)
      go a b la lb (no d) e = still a b la lb (inl d) (λ q. d q.0)
      go a b la lb (yes p) (no d) = still a b la lb (inr d) (λ q. d q.1)
      go a b la lb (yes p) (yes q) = rw (p, q, t.here) now

  -- both squares after the mark was taken
  pub read_taken : {allowed forbidden newAllowed newForbidden : List ℕ} → Read m n allowed forbidden → Toggled i k allowed newAllowed
      → Toggled i k forbidden newForbidden → Read taken n newAllowed newForbidden
  read_taken {allowed} {forbidden} r s t = record {
    steps = rows_taken r.steps s (gone (marked allowed i k) (r.steps.tells i k step.can.from step.can.to));
    bans = rows_taken r.bans t (come (marked forbidden i k) (r.bans.tells i k step.can.from step.can.to));
  }
    where
      gone : (b : Bool) → Tells (MarkedIn 1 m n i k) b → Tells (MarkedIn 1 taken n i k) (not b)
      gone true h = λ s. omega (arith, s.is, taken_here m (replace_in n i k) low)
      gone false h = absurd (h step)

      come : (b : Bool) → Tells (MarkedIn 2 m n i k) b → Tells (MarkedIn 2 taken n i k) (not b)
      come true h = absurd (omega (arith, h.is, step.is))
      come false h = record { can = step.can; is = taken_here m (replace_in n i k) low }
