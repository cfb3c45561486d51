-- The three conditions, once over both formats (document 01, "The three conditions"; document 02, order 9; theorem 1 of document 000), and as each
-- document writes them for its format. An unset mark counts as neither allowed nor forbidden. Assumes nothing.
use Rattle.std.specs.Prelude.{ℕ, ◌≢◌, ◌⊎◌, List}
use Rattle.table.specs.Rule.{IsChoice, IsStar, child_at}
use Rattle.table.specs.Privilege.{insert_of, delete_of, exchange_of, replace_of, Exchangeable, Replaceable}
use Rattle.policy.specs.Marks.{Allowed, Forbidden}
use Rattle.verdict.specs.Below.{PrivilegeBelow}
use Rattle.policy.specs.Reached.{Reached}
use Rattle.policy.specs.Renewed.{Both, Renewed}

pub record Clean (ws marks : List ℕ) : Type 0 where
  -- 1. at a star with child B whose insert and delete are both allowed, the exchange, where there is one, is not forbidden
  pub exchange : (x : ℕ) → Exchangeable ws x → Both ws (Allowed marks) x → ¬ Forbidden marks (exchange_of ws x)
  -- and if those two or the exchange are allowed, no privilege below B is forbidden
  pub renewal : (x p : ℕ) → IsStar ws x → Renewed ws (Allowed marks) x → PrivilegeBelow ws p (child_at ws x 0) → ¬ Forbidden marks p
  -- 2. at a choice, if j is reached from i and there is a privilege to replace i by j, it is not forbidden
  pub chain : (x i j : ℕ) → IsChoice ws x → Reached ws (Allowed marks) x i j → Replaceable ws x i j → ¬ Forbidden marks (replace_of ws x i j)
  -- 3. at a choice, if i is reached from i, no privilege below the child at i is forbidden
  pub cycle : (x i p : ℕ) → IsChoice ws x → Reached ws (Allowed marks) x i i → PrivilegeBelow ws p (child_at ws x i) → ¬ Forbidden marks p

-- in format 1 the same, each as document 01 writes it
pub record ThreeConditions (ws marks : List ℕ) : Type 0 where
  -- 1. at a star with child B whose insert and delete are both allowed, no privilege below B is forbidden
  pub insert_delete : (x p : ℕ) → IsStar ws x → Allowed marks (insert_of ws x) → Allowed marks (delete_of ws x)
      → PrivilegeBelow ws p (child_at ws x 0) → ¬ Forbidden marks p
  -- 2. at a choice, if j is reached from i and i differs from j, the privilege to replace i by j is not forbidden
  pub chain : (x i j : ℕ) → IsChoice ws x → Reached ws (Allowed marks) x i j → i ≢ j → ¬ Forbidden marks (replace_of ws x i j)
  -- 3. at a choice, if i is reached from i, no privilege below the child at i is forbidden
  pub cycle : (x i p : ℕ) → IsChoice ws x → Reached ws (Allowed marks) x i i → PrivilegeBelow ws p (child_at ws x i) → ¬ Forbidden marks p

-- in format 2 the same, each as order 9 writes it
pub record SameKindConditions (ws marks : List ℕ) : Type 0 where
  -- "if insert and delete are both allowed, the replace is not forbidden either"
  pub replace : (x : ℕ) → IsStar ws x → Allowed marks (insert_of ws x) → Allowed marks (delete_of ws x) → ¬ Forbidden marks (exchange_of ws x)
  -- "if those two or the replace are allowed, nothing below B is forbidden"
  pub below : (x p : ℕ) → IsStar ws x → (Allowed marks (insert_of ws x) × Allowed marks (delete_of ws x)) ⊎ Allowed marks (exchange_of ws x)
      → PrivilegeBelow ws p (child_at ws x 0) → ¬ Forbidden marks p
  -- "condition 2 includes i = j"
  pub chain : (x i j : ℕ) → IsChoice ws x → Reached ws (Allowed marks) x i j → ¬ Forbidden marks (replace_of ws x i j)
  -- condition 3 as it was
  pub cycle : (x i p : ℕ) → IsChoice ws x → Reached ws (Allowed marks) x i i → PrivilegeBelow ws p (child_at ws x i) → ¬ Forbidden marks p
