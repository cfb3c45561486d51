-- Renewing at a star, by its numbering. Assumes nothing.
use Rattle.std.specs.Prelude.{ℕ, ◌≡◌, ◌⊎◌, List, get_or}
use Rattle.table.specs.Steps.Numbering.{insert_in, delete_in, exchange_in, ExchangeableIn}
use Rattle.table.specs.declared.privilege.Numbering.{Numbering}
use Rattle.policy.specs.Marks.{Allowed, Forbidden}
use Rattle.policy.specs.declared.renew.Renewal.{Renewal}
use Rattle.policy.specs.declared.renew.Renewal.TheVariants.{Shut, Barred, Open}

pub record BothIn (marks : List ℕ) (n : Numbering) : Type 0 where
  pub insert : Allowed marks (insert_in n)
  pub delete : Allowed marks (delete_in n)

-- the mark of the exchange, or 0 where there is none
pub data ExchangeMark (marks : List ℕ) (n : Numbering) (r : ℕ) : Type 0 where
  there : ExchangeableIn n → r ≡ get_or marks (exchange_in n) 0 → ExchangeMark marks n r
  none : ¬ ExchangeableIn n → r ≡ 0 → ExchangeMark marks n r

abbrev pub RenewedIn : List ℕ → Numbering → Type 0
RenewedIn marks n = BothIn marks n ⊎ (ExchangeableIn n × Allowed marks (exchange_in n))

pub record BarredIn (marks : List ℕ) (n : Numbering) : Type 0 where
  pub can : ExchangeableIn n
  pub both : BothIn marks n
  pub forbidden : Forbidden marks (exchange_in n)

-- whether the child can be renewed, and whether the exchange is forbidden where insert and delete are both allowed
abbrev pub RenewalIn : List ℕ → Numbering → Renewal → Type 0
RenewalIn marks n Shut = ¬ RenewedIn marks n
RenewalIn marks n Barred = BarredIn marks n
RenewalIn marks n Open = (¬ BarredIn marks n) × RenewedIn marks n
