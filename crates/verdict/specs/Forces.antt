-- The one relation behind the three conditions: the allowed set S forces privilege p. Assumes nothing.
use Rattle.std.specs.Prelude.{ℕ, ◌≡◌, List}
use Rattle.table.specs.Rule.{IsChoice, IsStar, child_at}
use Rattle.table.specs.Privilege.{exchange_of, replace_of, Exchangeable, Replaceable}
use Rattle.verdict.specs.Below.{PrivilegeBelow}
use Rattle.policy.specs.Reached.{Reached}
use Rattle.policy.specs.Renewed.{Both, Renewed}

pub data Forces (ws : List ℕ) (S : ℕ → Type 0) (p : ℕ) : Type 0 where
  exchange : (x : ℕ) → Exchangeable ws x → Both ws S x → p ≡ exchange_of ws x → Forces ws S p
  renewal : (x : ℕ) → IsStar ws x → Renewed ws S x → PrivilegeBelow ws p (child_at ws x 0) → Forces ws S p
  chain : (x i j : ℕ) → IsChoice ws x → Reached ws S x i j → Replaceable ws x i j → p ≡ replace_of ws x i j → Forces ws S p
  cycle : (x i : ℕ) → IsChoice ws x → Reached ws S x i i → PrivilegeBelow ws p (child_at ws x i) → Forces ws S p
