-- What checking marks, and a table with its marks, answers: one answer each. Assumes nothing.
use Prim.Native.Nat.{ℕ, ◌≤◌, ◌<◌}
use mathlib.Core.Path.{◌≡◌, sym, ◌∙◌}
use mathlib.Core.Logic.{◌≢◌, inl, inr}
use mathlib.Core.List.{List}
use native.Mathlib.Omega.{arith}
use lib.ListN.{length, get_or, get_or-eq_default}
use Rattle.table.specs.Privilege.{privileges}
use Rattle.table.specs.Check.{Accepted, TableAnswer}
use Rattle.table.proofs.Lists.{le_or_lt}
use Rattle.table.proofs.Answers.{answer_one, answer_accepted, accepted_answer, lowest_one, refusal_not}
use Rattle.policy.specs.Marks.{Fit, Unfit, length_off, mark_above, Policy, NoPolicy, table, marks}
use Rattle.std.specs.Prelude.{Err}
use Rattle.table.specs.Refusals.{number_of, place_of}
use Rattle.table.specs.declared.refusal.Refusal.{Refusal}
use Rattle.policy.specs.Misfits.{refusal_of, misfit_number, misfit_place}
use Rattle.policy.specs.declared.marks.Misfit.{Misfit}
use Rattle.policy.specs.declared.marks.Misfit.TheVariants.{Length, Mark}
use Rattle.policy.specs.Steps.Checking.{MarksAnswer, unfit, fit, PolicyAnswer, refused, fits}

-- a set mark is one of the list's
pub marked_within : (m : List ℕ) (p : ℕ) → get_or m p 0 ≢ 0 → p < length m
marked_within m p d = elim (le_or_lt (length m) p) [ inl l ↦ absurd (d (get_or-eq_default m 0 l)) | inr l ↦ l ]

module _ {first v : ℕ} {ms : List ℕ} where
  -- marks that are fit are not unfit
  pub fit_not : {n p : ℕ} → Fit v ms → ¬ Unfit first v ms n p
  fit_not f (length_off d e q) = d f.size
  fit_not f (mark_above s e l) = l.fails (f.legal _ l.within)

  pub unfit_one : {n p m q : ℕ} → Unfit first v ms n p → Unfit first v ms m q → (n ≡ m) × (p ≡ q)
  unfit_one (length_off d e z) (length_off f g y) = (e ∙ sym g, z ∙ sym y)
  unfit_one (length_off d e z) (mark_above s g l) = absurd (d s)
  unfit_one (mark_above s e l) (length_off f g y) = absurd (f s)
  unfit_one (mark_above s e l) (mark_above t g k) = (e ∙ sym g, lowest_one l k)

  pub unfit_number : {n p : ℕ} → Unfit first v ms n p → first ≤ n
  unfit_number (length_off d e z) = omega arith
  unfit_number (mark_above s e l) = omega arith

  pub marks_refused : {n p : ℕ} → n ≢ 0 → MarksAnswer first v ms n p → Unfit first v ms n p
  marks_refused d (unfit u) = u
  marks_refused d (fit f e q) = absurd (d e)

  pub marks_fit : {n p : ℕ} → 1 ≤ first → n ≡ 0 → MarksAnswer first v ms n p → Fit v ms
  marks_fit l e (unfit u) = absurd (omega (arith, unfit_number u))
  marks_fit l e (fit f q z) = f

-- what is wrong with a policy's own marks, by the refusal
pub misfit_refused : {v : ℕ} {ms : List ℕ} (m : Misfit) → MarksAnswer 10 v ms (misfit_number {A = ℕ} 10 (Err m)) (misfit_place {A = ℕ} (Err m))
    → Unfit 10 v ms (number_of (refusal_of m)) (place_of (refusal_of m))
misfit_refused Length a = marks_refused (omega arith) a
misfit_refused (Mark p) a = marks_refused (omega arith) a

-- a table with number 0 is accepted, and its place is V
pub table_accepted : {ws : List ℕ} {n p : ℕ} → n ≡ 0 → TableAnswer ws n p → Accepted ws × (p ≡ privileges ws)
table_accepted {ws} {n} {p} e t = answer_accepted (rw e at t)

module _ {ws ms : List ℕ} where
  -- a policy is not refused
  pub policy_not : {n p : ℕ} → Policy ws ms → ¬ NoPolicy ws ms n p
  policy_not pol (table d t) = d (accepted_answer pol.accepted t)
  policy_not pol (marks a u) = fit_not pol.fit u

  pub refused_one : {n p m q : ℕ} → NoPolicy ws ms n p → NoPolicy ws ms m q → (n ≡ m) × (p ≡ q)
  refused_one (table d t) (table e u) = answer_one t u
  refused_one (table d t) (marks a u) = absurd (d (accepted_answer a t))
  refused_one (marks a u) (table e t) = absurd (e (accepted_answer a t))
  refused_one (marks a u) (marks b w) = unfit_one u w

  pub refused_number : {n p : ℕ} → NoPolicy ws ms n p → n ≢ 0
  refused_number (table d t) = d
  refused_number (marks a u) = let z = unfit_number u in omega arith

  -- a table and marks have one answer
  pub policy_one : {n p m q : ℕ} → PolicyAnswer ws ms n p → PolicyAnswer ws ms m q → (n ≡ m) × (p ≡ q)
  policy_one (refused r) (refused s) = refused_one r s
  policy_one (refused r) (fits pol e v) = absurd (policy_not pol r)
  policy_one (fits pol e v) (refused s) = absurd (policy_not pol s)
  policy_one (fits pol e v) (fits qol f w) = (e ∙ sym f, v ∙ sym w)

  -- by its number
  pub policy_refused : {n p : ℕ} → n ≢ 0 → PolicyAnswer ws ms n p → NoPolicy ws ms n p
  policy_refused d (refused r) = r
  policy_refused d (fits pol e v) = absurd (d e)

  pub policy_fits : {n p : ℕ} → n ≡ 0 → PolicyAnswer ws ms n p → Policy ws ms × (p ≡ privileges ws)
  policy_fits e (refused r) = absurd (refused_number r e)
  policy_fits e (fits pol f v) = (pol, v)

  -- a refusal is one
  pub policy_none : (r : Refusal) → PolicyAnswer ws ms (number_of r) (place_of r) → NoPolicy ws ms (number_of r) (place_of r)
  policy_none r = policy_refused (refusal_not r)
