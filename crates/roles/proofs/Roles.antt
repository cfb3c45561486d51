-- Completing all roles has one outcome; each role is what the single call gives, and nothing else changes. Assumes nothing.
use Rattle.std.proofs.Common.{ℕ, ◌*◌, ◌<◌, ◌≡◌, refl, sym, ap, ◌∙◌, ◌≢◌, ◌⊎◌, inl, inr, List, ◌++◌, arith, length, get_or, take, drop, take-append-drop, ext_get_or}
use Rattle.table.specs.Privilege.{privileges}
use Rattle.table.specs.Check.{Accepted}
use Rattle.table.proofs.Answers.{accepted_answer}
use Rattle.verdict.specs.declared.Answer.{Answer}
use Rattle.verdict.proofs.Judged.{refusal_one}
use Rattle.policy.specs.Marks.{length_off as marks_off, mark_above, Policy, table as no_table, marks as no_marks}
use Rattle.policy.proofs.Policies.{policy_not}
use Rattle.completion.specs.Answers.{CompleteAnswer, refused as no_policy, short as no_room, none, given}
use Rattle.completion.specs.Completions.{Completes, LeastCompletion}
use Rattle.completion.proofs.Completing.{complete_one, zero_given}
use Rattle.policy.specs.Roles.{stretch}
use Rattle.policy.proofs.Roles.{no_roles_one, no_roles_number, roles_not}
use Rattle.roles.specs.Answers.{RoleAnswer, RolesCompleted, RolesAnswer, refused, done}
use Rattle.policy.proofs.Stretches.{none_behind, parts_one}

-- a role has one number, and its stretch one content
pub role_one : {ws marks out x y : List ℕ} {n m : ℕ} → RoleAnswer ws marks out n x → RoleAnswer ws marks out m y → (n ≡ m) × (x ≡ y)
role_one a b = let one = complete_one a.single b.single in (a.is ∙ ap (λ (r : Answer). r.number) one.0 ∙ sym b.is, one.1)

module _ {ws marks numbers out : List ℕ} where
  completed_one : {i j x y : List ℕ} → RolesCompleted ws marks numbers out i x → RolesCompleted ws marks numbers out j y → (i ≡ j) × (x ≡ y)
  completed_one {i} {j} {x} {y} c d = (
    ext_get_or 0 i j (c.numbers_size ∙ sym d.numbers_size) (λ r l. (role_one (c.role r (rw c.numbers_size at l)) (d.role r (rw c.numbers_size at l))).0),
    sym (take-append-drop front x) ∙ ap (λ (t : List ℕ). t ++ drop front x) fronts ∙ ap (λ (t : List ℕ). take front y ++ t) (c.rest ∙ sym d.rest)
        ∙ take-append-drop front y,
  )
    where
      front : ℕ
      front = length numbers * privileges ws

      fronts : take front x ≡ take front y
      fronts = parts_one (privileges ws) (length numbers) x y (λ r l. (role_one (c.role r l) (d.role r l)).1)

  -- a call has one outcome: its answer, and what both lent runs hold
  pub roles_one : {a b : Answer} {i j x y : List ℕ} → RolesAnswer ws marks numbers out a i x → RolesAnswer ws marks numbers out b j y → (a ≡ b) × (i ≡ j) × (x ≡ y)
  roles_one (refused n e h k) (refused o f l m) = (e ∙ refusal_one (no_roles_one n o) ∙ sym f, h ∙ sym l, k ∙ sym m)
  roles_one (refused n e h k) (done b t w f c) = absurd (roles_not b t w n)
  roles_one (done a s r e c) (refused o f l m) = absurd (roles_not a s r o)
  roles_one (done a s r e c) (done b t w f d) = let one = completed_one c d in (e ∙ sym f, one.0, one.1)

-- what becomes of a role: a mark is above 2, no policy completes its marks, or its stretch holds the least that does
pub data Becomes (ws marks out : List ℕ) (n : ℕ) (x : List ℕ) : Type 0 where
  bent : ¬ Policy ws marks → n ≡ 11 → x ≡ out → Becomes ws marks out n x
  broken : Policy ws marks → ((m : List ℕ) → ¬ Completes ws marks m) → n ≡ 16 → x ≡ out → Becomes ws marks out n x
  completed : Policy ws marks → LeastCompletion ws marks x → n ≡ 0 → Becomes ws marks out n x

-- a role by itself
module _ {ws marks out x : List ℕ} {n : ℕ} (role : RoleAnswer ws marks out n x) where
  told : {a : Answer} → role.answer ≡ a → n ≡ a.number
  told e = role.is ∙ ap (λ (r : Answer). r.number) e

  -- "a refused role keeps its stretch"
  pub role_kept : n ≢ 0 → x ≡ out
  role_kept d = go role.single
    where
      go : CompleteAnswer ws marks out role.answer x → x ≡ out
      go (no_policy p e k) = k
      go (no_room p l e k) = k
      go (none p l h b e k) = k
      go (given p l h e k) = absurd (d (told e))

  -- a role that is done has the least completion of its marks in its stretch
  pub role_given : length out ≡ privileges ws → n ≡ 0 → LeastCompletion ws marks x
  role_given s z =
      let g = zero_given role.single (sym role.is ∙ z) in
      rw (g.is, none_behind (privileges ws) g.front out s) g.least

  -- with its own V marks and its own stretch of V
  pub role_becomes : Accepted ws → length marks ≡ privileges ws → length out ≡ privileges ws → Becomes ws marks out n x
  role_becomes accepted s t = go role.single
    where
      go : CompleteAnswer ws marks out role.answer x → Becomes ws marks out n x
      go (no_policy (no_table d u) e k) = absurd (d (accepted_answer accepted u))
      go (no_policy (no_marks b (marks_off d m z)) e k) = absurd (d s)
      go (no_policy (no_marks b (mark_above l m h)) e k) = bent (λ p. policy_not p (no_marks b (mark_above l m h))) (told e ∙ m) k
      go (no_room p l e k) = absurd (omega arith)
      go (none p l h b e k) = broken p h (told e) k
      go (given p l h e k) = completed p (role_given t (told e)) (told e)

  -- "within a role 11 or 16, and no others"
  pub role_number : Accepted ws → length marks ≡ privileges ws → length out ≡ privileges ws → (n ≡ 0) ⊎ (n ≡ 11) ⊎ (n ≡ 16)
  role_number accepted s t = elim (role_becomes accepted s t) [ bent d e k ↦ inr (inl e) | broken p h e k ↦ inr (inr e) | completed p h e ↦ inl e ]

-- a call that is done: each role has the number of the single call on its own marks and its own stretch, and the stretch holds what that call leaves there
pub roles_single : {ws marks numbers out i x y : List ℕ} {a b : Answer} (r : ℕ) → RolesAnswer ws marks numbers out a i x → a.number ≡ 0
    → r < length numbers → CompleteAnswer ws (stretch ws r marks) (stretch ws r out) b y → (get_or i r 0 ≡ b.number) × (stretch ws r x ≡ y)
roles_single r (refused n e h k) z l c = absurd (no_roles_number n (sym (ap (λ (t : Answer). t.number) e) ∙ z))
roles_single {b = b} r (done t s h e d) z l c = role_one (d.role r l) (record { answer = b; single = c; is = refl })
