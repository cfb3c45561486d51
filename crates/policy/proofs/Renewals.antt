-- Renewing at a star, by its numbering and by its marks. Assumes nothing.
use Prim.Native.Nat.{ℕ}
use mathlib.Core.Path.{◌≡◌, sym, ◌∙◌}
use mathlib.Core.Logic.{◌≢◌, inl, inr}
use mathlib.Core.List.{List}
use native.Mathlib.Omega.{arith}
use lib.ListN.{get_or}
use Rattle.table.specs.Rule.{IsStar}
use Rattle.table.specs.Privilege.{insert_of, delete_of, exchange_of}
use Rattle.table.specs.Steps.Numbering.{NumberedAs, exchange_in, ExchangeableIn}
use Rattle.table.specs.declared.privilege.Numbering.{Numbering}
use Rattle.table.proofs.Privileges.{insert_in_lem, delete_in_lem, exchange_in_lem, exchangeable_in, in_exchangeable}
use Rattle.policy.specs.Marks.{Allowed}
use Rattle.policy.specs.Renewed.{Both, Renewed, by_both, by_exchange, Barred}
use Rattle.policy.specs.Steps.Renewing.{BothIn, RenewedIn, BarredIn, ExchangeMark, there, none}

-- a mark that is set is that of an exchange
pub exchange_set : {marks : List ℕ} {n : Numbering} {r : ℕ} → ExchangeMark marks n r → r ≢ 0 → ExchangeableIn n × (r ≡ get_or marks (exchange_in n) 0)
exchange_set (there c e) d = (c, e)
exchange_set (none c e) d = absurd (d e)

pub exchange_read : {marks : List ℕ} {n : Numbering} {r : ℕ} → ExchangeMark marks n r → ExchangeableIn n → r ≡ get_or marks (exchange_in n) 0
exchange_read (there c e) h = e
exchange_read (none c e) h = absurd (c h)

-- more allowed renews more
module _ {ws : List ℕ} {S R : ℕ → Type 0} (more : (p : ℕ) → S p → R p) where
  pub both_mono : {x : ℕ} → Both ws S x → Both ws R x
  both_mono {x} b = record { insert = more (insert_of ws x) b.insert; delete = more (delete_of ws x) b.delete }

  pub renewed_mono : {x : ℕ} → Renewed ws S x → Renewed ws R x
  renewed_mono (by_both b) = by_both (both_mono b)
  renewed_mono {x} (by_exchange c a) = by_exchange c (more (exchange_of ws x) a)

-- whether the child can be renewed, by whether both are allowed and by the exchange's mark
module _ {marks : List ℕ} {n : Numbering} {r : ℕ} (own : ExchangeMark marks n r) where
  pub barred : r ≡ 2 → BothIn marks n → BarredIn marks n
  barred e b = let s = exchange_set own (λ z. omega arith) in record { can = s.0; both = b; forbidden = sym s.1 ∙ e }

  pub shut : r ≢ 1 → ¬ BothIn marks n → ¬ RenewedIn marks n
  shut d c (inl b) = c b
  shut d c (inr (k, a)) = d (exchange_read own k ∙ a)

module _ {ws : List ℕ} {x : ℕ} {n : Numbering} (h : NumberedAs ws x n) {marks : List ℕ} where
  pub both_out : BothIn marks n → Both ws (Allowed marks) x
  both_out b = record { insert = rw (insert_in_lem h) at b.insert; delete = rw (delete_in_lem h) at b.delete }

  pub both_into : Both ws (Allowed marks) x → BothIn marks n
  both_into b = record { insert = rw (insert_in_lem h) b.insert; delete = rw (delete_in_lem h) b.delete }

  pub renewed_out : IsStar ws x → RenewedIn marks n → Renewed ws (Allowed marks) x
  renewed_out s (inl b) = by_both (both_out b)
  renewed_out s (inr (c, a)) = by_exchange (in_exchangeable h s c) (rw (exchange_in_lem h) at a)

  pub renewed_into : Renewed ws (Allowed marks) x → RenewedIn marks n
  renewed_into (by_both b) = inl (both_into b)
  renewed_into (by_exchange c a) = inr (exchangeable_in h c, rw (exchange_in_lem h) a)

  pub barred_out : IsStar ws x → BarredIn marks n → Barred ws marks x
  barred_out s b = record { can = in_exchangeable h s b.can; both = both_out b.both; forbidden = rw (exchange_in_lem h) at b.forbidden }

  pub barred_into : Barred ws marks x → BarredIn marks n
  barred_into b = record { can = exchangeable_in h b.can; both = both_into b.both; forbidden = rw (exchange_in_lem h) b.forbidden }
