-- What an allowed set opens: everything at a type below a child that can be renewed, or replaced and replaced back. Assumes nothing.
use Rattle.std.specs.Prelude.{ℕ, ◌≡◌, ◌⊎◌, List}
use Rattle.table.specs.Rule.{IsChoice, IsStar, child_at}
use Rattle.table.specs.Below.{Below}
use Rattle.policy.specs.Reached.{Reached}
use Rattle.policy.specs.Renewed.{Renewed}

-- x opens the child at i
pub data OpensAt (ws : List ℕ) (S : ℕ → Type 0) (x i : ℕ) : Type 0 where
  star : IsStar ws x → Renewed ws S x → i ≡ 0 → OpensAt ws S x i
  cycle : IsChoice ws x → Reached ws S x i i → OpensAt ws S x i

-- type y is opened: it is below a child that some type opens
pub record Opened (ws : List ℕ) (S : ℕ → Type 0) (y : ℕ) : Type 0 where
  pub at : ℕ
  pub i : ℕ
  pub opens : OpensAt ws S at i
  pub below : Below ws y (child_at ws at i)

-- x passes opening on to the child at i: x is opened itself, or opens it
abbrev pub PassesOn : List ℕ → (ℕ → Type 0) → ℕ → ℕ → Type 0
PassesOn ws S x i = Opened ws S x ⊎ OpensAt ws S x i
