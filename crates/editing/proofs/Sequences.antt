-- After every sequence of edits from a fresh policy the entries are those of the marks, and each verdict is the one on the marks. Assumes nothing.
use Prim.Native.Nat.{ℕ, zero, suc, ◌≤◌, ◌<◌}
use mathlib.Core.Path.{◌≡◌, refl, sym, ap, subst⁻¹, ◌∙◌}
use mathlib.Core.Logic.{◌⊎◌, inl, inr}
use mathlib.Core.List.{List, ◌∷◌}
use native.Mathlib.Omega.{arith}
use lib.ListN.{length, get_or, set, replicate, length-set}
use lib.Seq.{get_or-set_same, get_or-set_other}
use Rattle.table.specs.Words.{types}
use Rattle.table.specs.HowMany.{nothing}
use Rattle.table.specs.Privilege.{Belongs, privileges}
use Rattle.table.proofs.BelowTests.{below}
use Rattle.table.proofs.HowMany.{tallied_as}
use Rattle.table.proofs.Lists.{le_or_lt}
use Rattle.table.proofs.Privileges.{belongs_one, belongs_some}
use Rattle.table.proofs.Test.{settle}
use Rattle.policy.specs.Marks.{Legal, Policy}
use Rattle.verdict.specs.Below.{PrivilegeBelow, ForbiddenTally}
use Rattle.verdict.specs.Answers.{JudgeAnswer, judged}
use Rattle.verdict.specs.declared.Answer.{Answer}
use Rattle.verdict.specs.declared.below.Tally.{Tally}
use Rattle.verdict.specs.Kept.{entry_of}
use Rattle.editing.specs.Entries.{Entries}
use Rattle.editing.specs.Answer.{IsEdit, EditAnswer, refused, edited}
use Rattle.editing.specs.Clicks.{Click, Clicked, none, then}
use Rattle.editing.proofs.Answered.{no_edit_number}
use Rattle.editing.proofs.Verdicts.{kept_verdict}

-- a mark that is not below a type does not change what is forbidden below it
elsewhere : (ws marks : List ℕ) (p mark t : ℕ) {r : Tally} → ¬ PrivilegeBelow ws p t → ForbiddenTally ws marks t r → ForbiddenTally ws (set marks p mark) t r
elsewhere ws marks p mark t d = tallied_as (λ q l w. record { below = w.below; forbidden = other q w.below ∙ w.forbidden })
    (λ q l w. record { below = w.below; forbidden = sym (other q w.below) ∙ w.forbidden })
  where
    other : (q : ℕ) → PrivilegeBelow ws q t → get_or (set marks p mark) q 0 ≡ get_or marks q 0
    other q b = get_or-set_other marks p q mark 0 (λ e. d (rw (← e) b))

-- a privilege is below a type or not
below_or_not : (ws : List ℕ) (p t : ℕ) → p < privileges ws → PrivilegeBelow ws p t ⊎ (¬ PrivilegeBelow ws p t)
below_or_not ws p t l = go (belongs_some ws p l)
  where
    go : (x : ℕ) × Belongs ws p x → PrivilegeBelow ws p t ⊎ (¬ PrivilegeBelow ws p t)
    go (x, h) = elim (settle (below ws x t)) [
      | inl b ↦ inl (record { type = x; belongs = h; below = b })
      | inr n ↦ inr (λ w. n (rw (belongs_one w.belongs h) at w.below))
    ]

-- an edited policy is one
pub edit_policy : (ws marks : List ℕ) (n p mark : ℕ) → IsEdit ws marks n p mark → Policy ws (set marks p mark)
edit_policy ws marks n p mark i = record {
  accepted = i.policy.accepted;
  fit = record { size = length-set marks p mark ∙ i.policy.fit.size; legal = λ q l. go q l (le_or_lt p q) (le_or_lt q p) };
}
  where
    go : (q : ℕ) → q < privileges ws → (p ≤ q) ⊎ (q < p) → (q ≤ p) ⊎ (p < q) → Legal (set marks p mark) q
    go q l (inl h) (inl k) = let e : q ≡ p = omega arith in rw (e, get_or-set_same marks p mark 0 (omega (arith, i.policy.fit.size))) i.legal
    go q l (inl h) (inr k) = rw (get_or-set_other marks p q mark 0 (λ e. omega arith)) (i.policy.fit.legal q l)
    go q l (inr h) k = rw (get_or-set_other marks p q mark 0 (λ e. omega arith)) (i.policy.fit.legal q l)

module _ {ws marks kept : List ℕ} {p mark : ℕ} {a : Answer} {after entries : List ℕ} where
  -- where the entries are those of the marks before an edit, they are so afterwards
  pub edit_keeps : Entries ws marks kept → EditAnswer ws marks kept p mark a after entries → Entries ws after entries
  edit_keeps r (refused n e x y) = rw (x, y) r
  edit_keeps r (edited i x g v e) = record { each = λ t l. go t l (below_or_not ws p t i.privilege) }
    where
      go : (t : ℕ) → t < types ws → PrivilegeBelow ws p t ⊎ (¬ PrivilegeBelow ws p t) → ForbiddenTally ws after t (entry_of entries t)
      go t l (inl b) = g.above t l b
      go t l (inr n) = subst⁻¹ (λ (e : Tally). ForbiddenTally ws after t e) (g.others t l n) (rw x (elsewhere ws marks p mark t n (r.each t l)))

  -- and the verdict then is the one on the marks: where it is told, and the entries then kept are those of the new marks
  pub edit_judged : Entries ws after entries → EditAnswer ws marks kept p mark a after entries → a.number ≡ 0 → JudgeAnswer ws after a
  edit_judged r (refused n e x y) z = absurd (no_edit_number n (sym (ap (λ (b : Answer). b.number) e) ∙ z))
  edit_judged r (edited i x g v e) z = let pol : Policy ws after = rw x (edit_policy ws marks (length kept) p mark i) in judged pol (kept_verdict pol r v) e

-- the fresh policy: marks and entries are 0
zeros : (n k : ℕ) → ◌≡◌ {A = ℕ} (get_or (replicate n 0) k 0) 0
zeros zero k = refl
zeros (suc n) zero = refl
zeros (suc n) (suc k) = zeros n k

pub fresh_entries : (ws : List ℕ) (v n : ℕ) → Entries ws (replicate v 0) (replicate n 0)
fresh_entries ws v n = record { each = λ t l. nothing (λ q i w. omega (arith, zeros v q, w.forbidden)) (zeros n _) (zeros n _) }

-- after every sequence of edits from it the entries are those worked out anew from the marks
module _ (ws : List ℕ) (v n : ℕ) where
  pub worked_out : {clicks : List Click} {answers : List Answer} {m k : List ℕ} → Clicked ws (replicate v 0) (replicate n 0) clicks answers m k → Entries ws m k
  worked_out none = fresh_entries ws v n
  worked_out (then c e) = edit_keeps (worked_out c) e

  -- and the verdict of the latest edit that is not refused is that of judge_policy; so it is for each, since this holds of every sequence
  pub judged_anew : {clicks : List Click} {answers : List Answer} {m k : List ℕ} {c : Click} {a : Answer} → Clicked ws (replicate v 0) (replicate n 0) (c ∷ clicks) (a ∷ answers) m k
      → a.number ≡ 0 → JudgeAnswer ws m a
  judged_anew (then c e) z = edit_judged (edit_keeps (worked_out c) e) e z
