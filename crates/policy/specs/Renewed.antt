-- Renewing at a star (document 01, condition 1; document 02, order 9): its child is deleted and another one inserted, or, in format 2, exchanged for one
-- of its own kind. What is allowed is any set of privileges. Assumes nothing.
use Rattle.std.specs.Prelude.{ℕ, List}
use Rattle.table.specs.Privilege.{insert_of, delete_of, exchange_of, Exchangeable}
use Rattle.policy.specs.Marks.{Allowed, Forbidden}

-- at x insert and delete are both allowed
pub record Both (ws : List ℕ) (S : ℕ → Type 0) (x : ℕ) : Type 0 where
  pub insert : S (insert_of ws x)
  pub delete : S (delete_of ws x)

-- at the star x those two or the exchange are allowed
pub data Renewed (ws : List ℕ) (S : ℕ → Type 0) (x : ℕ) : Type 0 where
  by_both : Both ws S x → Renewed ws S x
  by_exchange : Exchangeable ws x → S (exchange_of ws x) → Renewed ws S x

-- at the star x insert and delete are both allowed, and the exchange is forbidden
pub record Barred (ws marks : List ℕ) (x : ℕ) : Type 0 where
  pub can : Exchangeable ws x
  pub both : Both ws (Allowed marks) x
  pub forbidden : Forbidden marks (exchange_of ws x)
