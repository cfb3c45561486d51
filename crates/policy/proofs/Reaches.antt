-- Reaching within a choice: it stays among the positions, more allowed reaches more, and a reached pair has a privilege, if
-- one of the same kind has. Assumes nothing.
use Prim.Native.Nat.{ℕ, ◌<◌}
use mathlib.Core.Path.{◌≡◌}
use mathlib.Core.List.{List}
use Rattle.table.specs.Rule.{IsChoice, count_of}
use Rattle.table.specs.Privilege.{replace_of, SameKind, Replaceable}
use Rattle.policy.specs.Reached.{Step, Reached}
use Rattle.policy.proofs.Closures.{plus_map, plus_starts, plus_ends}

pub reached_from : {ws : List ℕ} {S : ℕ → Type 0} {x i j : ℕ} → Reached ws S x i j → i < count_of ws x
reached_from {ws} {x = x} = plus_starts {P = λ k. k < count_of ws x} (λ a b s. s.can.from)

pub reached_to : {ws : List ℕ} {S : ℕ → Type 0} {x i j : ℕ} → Reached ws S x i j → j < count_of ws x
reached_to {ws} {x = x} = plus_ends {P = λ k. k < count_of ws x} (λ a b s. s.can.to)

module _ {ws : List ℕ} {S R : ℕ → Type 0} (more : (p : ℕ) → S p → R p) where
  step_mono : {x : ℕ} (i j : ℕ) → Step ws S x i j → Step ws R x i j
  step_mono {x} i j s = record { can = s.can; allowed = more (replace_of ws x i j) s.allowed }

  pub reached_mono : {x i j : ℕ} → Reached ws S x i j → Reached ws R x i j
  reached_mono r = plus_map step_mono r

-- a reached pair has a privilege, if one of the same kind has
pub reached_replaceable : {ws : List ℕ} {S : ℕ → Type 0} {x i j : ℕ} → IsChoice ws x → Reached ws S x i j → (i ≡ j → SameKind ws) → Replaceable ws x i j
reached_replaceable s r d = record { choice = s; from = reached_from r; to = reached_to r; same_kind = d }
