-- The least completion (demand 3; document 01, "Completing and mending"). Assumes nothing.
use Rattle.std.specs.Prelude.{ℕ, ◌<◌, ◌≡◌, ◌⊎◌, List, length}
use Rattle.table.specs.Privilege.{privileges}
use Rattle.policy.specs.Marks.{Allowed, Forbidden, Keeps}
use Rattle.verdict.specs.Conditions.{Clean}

-- n is a fully decided policy that keeps every mark set in m and passes the three conditions
pub record Completes (ws m n : List ℕ) : Type 0 where
  pub size : length n ≡ privileges ws
  pub decided : (p : ℕ) → p < privileges ws → Allowed n p ⊎ Forbidden n p
  pub keeps : Keeps m n
  pub clean : Clean ws n

-- n is such a policy, and allows only what every such policy allows
pub record LeastCompletion (ws m n : List ℕ) : Type 0 where
  pub completes : Completes ws m n
  pub least : (o : List ℕ) → Completes ws m o → (p : ℕ) → Allowed n p → Allowed o p
