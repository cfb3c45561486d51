-- Editing one mark has one outcome: the answer, the marks and the entries afterwards. Assumes nothing.
use Prim.Native.Nat.{ℕ, zero, suc, ◌+◌, ◌*◌, ◌≤◌, ◌<◌}
use mathlib.Core.Path.{◌≡◌, refl, sym, ap, ◌∙◌}
use mathlib.Core.Logic.{◌≢◌, ◌⊎◌, inl, inr}
use mathlib.Core.List.{List}
use native.Mathlib.Omega.{arith}
use lib.ListN.{get_or}
use lib.Seq.{ext_get_or}
use Rattle.table.specs.Words.{types}
use Rattle.table.proofs.Lists.{le_or_lt}
use Rattle.policy.proofs.Policies.{policy_not, refused_one, refused_number}
use Rattle.verdict.specs.Below.{PrivilegeBelow}
use Rattle.verdict.specs.Answers.{verdict_of}
use Rattle.verdict.specs.declared.Answer.{Answer}
use Rattle.verdict.specs.declared.below.Tally.{Tally}
use Rattle.verdict.proofs.Judged.{refusal_one}
use Rattle.verdict.proofs.Tallies.{below_one}
use Rattle.verdict.specs.Kept.{entry_of}
use Rattle.editing.specs.Entries.{Renewed}
use Rattle.editing.specs.Answer.{IsEdit, NoEdit, no_policy, no_privilege, no_mark, short, EditAnswer, refused, edited}
use Rattle.editing.specs.Steps.Checking.{EditChecked, fits}
use Rattle.editing.specs.Steps.Checking as checking
use Rattle.editing.proofs.Verdicts.{kept_one}

-- why an edit is refused: one number, one place
module _ {ws marks : List ℕ} {n p mark : ℕ} where
  -- a refused edit has a number
  pub no_edit_number : {k q : ℕ} → NoEdit ws marks n p mark k q → k ≢ 0
  no_edit_number (no_policy r) = refused_number r
  no_edit_number (no_privilege pol l d z) = omega arith
  no_edit_number (no_mark pol l m d z) = omega arith
  no_edit_number (short pol l m r d z) = omega arith

  -- so the number tells whether it is
  pub checked_refused : {k q : ℕ} → k ≢ 0 → EditChecked ws marks n p mark k q → NoEdit ws marks n p mark k q
  checked_refused d (checking.refused r) = r
  checked_refused d (fits i e) = absurd (d e)

  pub checked_fits : {k q : ℕ} → k ≡ 0 → EditChecked ws marks n p mark k q → IsEdit ws marks n p mark
  checked_fits e (checking.refused r) = absurd (no_edit_number r e)
  checked_fits e (fits i f) = i

  pub edit_not : {k q : ℕ} → IsEdit ws marks n p mark → ¬ NoEdit ws marks n p mark k q
  edit_not e (no_policy r) = policy_not e.policy r
  edit_not e (no_privilege pol l d z) = omega (arith, e.privilege)
  edit_not e (no_mark pol l m d z) = omega (arith, e.legal)
  edit_not e (short pol l m r d z) = omega (arith, e.room)

  no_edit_one : {k q j r : ℕ} → NoEdit ws marks n p mark k q → NoEdit ws marks n p mark j r → (k ≡ j) × (q ≡ r)
  no_edit_one (no_policy a) (no_policy b) = refused_one a b
  no_edit_one (no_policy a) (no_privilege pol l d z) = absurd (policy_not pol a)
  no_edit_one (no_policy a) (no_mark pol l m d z) = absurd (policy_not pol a)
  no_edit_one (no_policy a) (short pol l m r d z) = absurd (policy_not pol a)
  no_edit_one (no_privilege pol l d z) (no_policy b) = absurd (policy_not pol b)
  no_edit_one (no_privilege pol l d z) (no_privilege qol h e y) = (d ∙ sym e, z ∙ sym y)
  no_edit_one (no_privilege pol l d z) (no_mark qol h m e y) = absurd (omega arith)
  no_edit_one (no_privilege pol l d z) (short qol h m r e y) = absurd (omega arith)
  no_edit_one (no_mark pol l m d z) (no_policy b) = absurd (policy_not pol b)
  no_edit_one (no_mark pol l m d z) (no_privilege qol h e y) = absurd (omega arith)
  no_edit_one (no_mark pol l m d z) (no_mark qol h o e y) = (d ∙ sym e, z ∙ sym y)
  no_edit_one (no_mark pol l m d z) (short qol h o r e y) = absurd (omega arith)
  no_edit_one (short pol l m r d z) (no_policy b) = absurd (policy_not pol b)
  no_edit_one (short pol l m r d z) (no_privilege qol h e y) = absurd (omega arith)
  no_edit_one (short pol l m r d z) (no_mark qol h o e y) = absurd (omega arith)
  no_edit_one (short pol l m r d z) (short qol h o s e y) = (d ∙ sym e, z ∙ sym y)

-- numbers that cannot differ are equal
not_other : (a b : ℕ) → ¬ (¬ (a ≡ b)) → a ≡ b
not_other a b h = go (le_or_lt a b) (le_or_lt b a)
  where
    go : (a ≤ b) ⊎ (b < a) → (b ≤ a) ⊎ (a < b) → a ≡ b
    go (inl l) (inl m) = omega arith
    go (inl l) (inr m) = absurd (h (λ e. omega arith))
    go (inr l) m = absurd (h (λ e. omega arith))

-- each word is one of an entry
half : (k : ℕ) → (t : ℕ) × ((k ≡ 2 * t) ⊎ (k ≡ 2 * t + 1))
half zero = (0, inl refl)
half (suc k) = go (half k)
  where
    go : (t : ℕ) × ((k ≡ 2 * t) ⊎ (k ≡ 2 * t + 1)) → (t : ℕ) × ((suc k ≡ 2 * t) ⊎ (suc k ≡ 2 * t + 1))
    go (t, inl e) = (t, inr (omega arith))
    go (t, inr e) = (t + 1, inl (omega arith))

-- the entries afterwards are one
module _ {ws marks kept after other : List ℕ} {p : ℕ} (f : Renewed ws marks p kept after) (g : Renewed ws marks p kept other) where
  entry_same : (t : ℕ) → t < types ws → ¬ (¬ (entry_of after t ≡ entry_of other t))
  entry_same t l n =
      let apart : ¬ PrivilegeBelow ws p t = λ b. n (below_one (f.above t l b) (g.above t l b)) in
      n (f.others t l apart ∙ sym (g.others t l apart))

  word_same : (k : ℕ) → get_or after k 0 ≡ get_or other k 0
  word_same k = go (half k) (le_or_lt (2 * types ws) k)
    where
      go : (t : ℕ) × ((k ≡ 2 * t) ⊎ (k ≡ 2 * t + 1)) → (2 * types ws ≤ k) ⊎ (k < 2 * types ws) → get_or after k 0 ≡ get_or other k 0
      go (t, h) (inl l) = f.rest k l ∙ sym (g.rest k l)
      go (t, inl e) (inr l) = not_other _ _ (λ d. entry_same t (omega arith) (λ s. d (rw e (ap (λ (r : Tally). r.lowest) s))))
      go (t, inr e) (inr l) = not_other _ _ (λ d. entry_same t (omega arith) (λ s. d (rw e (ap (λ (r : Tally). r.count) s))))

  pub renewed_one : after ≡ other
  renewed_one = ext_get_or 0 after other (f.size ∙ sym g.size) (λ k l. word_same k)

module _ {ws marks kept : List ℕ} {p mark : ℕ} where
  pub edit_one : {a b : Answer} {m n k l : List ℕ} → EditAnswer ws marks kept p mark a m k → EditAnswer ws marks kept p mark b n l → (a ≡ b) × (m ≡ n) × (k ≡ l)
  edit_one (refused r e x y) (refused s f u v) = (e ∙ refusal_one (no_edit_one r s) ∙ sym f, x ∙ sym u, y ∙ sym v)
  edit_one (refused r e x y) (edited i u g w f) = absurd (edit_not i r)
  edit_one (edited i u g w f) (refused r e x y) = absurd (edit_not i r)
  edit_one {m = m} {n = n} {k = k} {l = l} (edited {b = b} i x g v e) (edited {b = c} j y h w f) =
      let s : m ≡ n = x ∙ sym y in
      let same : k ≡ l = renewed_one g (rw s h) in
      (e ∙ ap verdict_of (kept_one ws m k v (rw (s, same) w)) ∙ sym f, s, same)
