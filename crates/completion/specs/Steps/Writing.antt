-- What each part of the completion writes. Assumes nothing.
use Rattle.std.specs.Prelude.{ℕ, ◌<◌, ◌≡◌, ◌⊎◌, Bool, true, List, eqb, length, get_or, set}
use Rattle.table.specs.Steps.Found.{Tells}
use Rattle.table.specs.Privilege.{Belongs}
use Rattle.table.specs.Steps.Numbering.{exchange_in, ExchangeableIn}
use Rattle.table.specs.declared.privilege.Numbering.{Numbering}
use Rattle.policy.specs.Steps.Renewing.{BothIn}
use Rattle.policy.specs.Steps.Writing.{Decision}

-- the flag of z
abbrev pub is_open : List ℕ → ℕ → Bool
is_open opened z = eqb (get_or opened z 0) 1

-- the children at the positions that have G are opened too
pub record KidsOpened (G : ℕ → Type 0) (kids old new : List ℕ) : Type 0 where
  pub size : length new ≡ 256
  pub tells : (z : ℕ) → z < 256 → Tells ((is_open old z ≡ true) ⊎ ((i : ℕ) × (i < length kids) × (get_or kids i 0 ≡ z) × G i)) (is_open new z)

-- the exchange of a star, where there is one, is allowed if insert and delete are, and the rest is as it was
pub data ExchangeWritten (n : Numbering) (old new : List ℕ) : Type 0 where
  drawn : ExchangeableIn n → BothIn old n → new ≡ set old (exchange_in n) 1 → ExchangeWritten n old new
  kept : ¬ (ExchangeableIn n × BothIn old n) → new ≡ old → ExchangeWritten n old new

-- the privileges of type x are decided by P, and the rest is as it was
pub record TypeWritten (ws : List ℕ) (P : ℕ → Type 0) (x : ℕ) (old new : List ℕ) : Type 0 where
  pub size : length new ≡ length old
  pub own : (p : ℕ) → Belongs ws p x → Decision (P p) (get_or new p 0)
  pub rest : (p : ℕ) → ¬ Belongs ws p x → get_or new p 0 ≡ get_or old p 0
