-- A call on many roles is refused in one way, and one that is lent what it needs is not. Assumes nothing.
use Prim.Native.Nat.{ℕ, ◌*◌, ◌≤◌}
use mathlib.Core.Path.{◌≡◌, sym, ◌∙◌}
use mathlib.Core.Logic.{◌≢◌}
use mathlib.Core.List.{List}
use native.Mathlib.Omega.{arith}
use lib.ListN.{length}
use Rattle.table.specs.Privilege.{privileges}
use Rattle.table.specs.Check.{Accepted}
use Rattle.table.proofs.Answers.{answer_one, accepted_answer}
use Rattle.policy.specs.Roles.{NoRoles, table, length_off, short}

module _ {ws marks : List ℕ} {roles lent needed : ℕ} where
  pub no_roles_one : {n p m q : ℕ} → NoRoles ws roles marks lent needed n p → NoRoles ws roles marks lent needed m q → (n ≡ m) × (p ≡ q)
  no_roles_one (table d t) (table e u) = answer_one t u
  no_roles_one (table d t) (length_off a u e z) = absurd (d (accepted_answer a t))
  no_roles_one (table d t) (short a u h e z) = absurd (d (accepted_answer a t))
  no_roles_one (length_off a u e z) (table d t) = absurd (d (accepted_answer a t))
  no_roles_one (length_off a u e z) (length_off b w f y) = (e ∙ sym f, z ∙ sym y)
  no_roles_one (length_off a u e z) (short b w h f y) = absurd (u w)
  no_roles_one (short a u h e z) (table d t) = absurd (d (accepted_answer a t))
  no_roles_one (short a u h e z) (length_off b w f y) = absurd (w u)
  no_roles_one (short a u h e z) (short b w k f y) = (e ∙ sym f, z ∙ sym y)

  pub no_roles_number : {n p : ℕ} → NoRoles ws roles marks lent needed n p → n ≢ 0
  no_roles_number (table d t) = d
  no_roles_number (length_off a u e z) = omega arith
  no_roles_number (short a u h e z) = omega arith

  pub roles_not : {n p : ℕ} → Accepted ws → length marks ≡ roles * privileges ws → needed ≤ lent → ¬ NoRoles ws roles marks lent needed n p
  roles_not a s h (table d t) = d (accepted_answer a t)
  roles_not a s h (length_off b u e z) = u s
  roles_not a s h (short b u k e z) = omega arith
