-- Being ahead is a strict order, and of two numbers one is ahead of the other. Assumes nothing.
use Rattle.std.proofs.Common.{ℕ, ◌≤◌, ◌<◌, sym, ◌≢◌, ◌⊎◌, inl, inr, eq-or-lt_of_le, arith}
use Rattle.table.proofs.Lists.{le_or_lt}
use Rattle.leaders.specs.Leaders.{Ahead, more, lower}

module _ {often : ℕ → ℕ} where
  pub ahead_never : {p : ℕ} → ¬ Ahead often p p
  ahead_never (more l) = omega arith
  ahead_never (lower e l) = omega arith

  pub ahead_trans : {p q r : ℕ} → Ahead often p q → Ahead often q r → Ahead often p r
  ahead_trans (more l) (more k) = more (omega arith)
  ahead_trans (more l) (lower e k) = more (omega arith)
  ahead_trans (lower e l) (more k) = more (omega arith)
  ahead_trans (lower e l) (lower f k) = lower (omega arith) (omega arith)

  -- a lower number that comes as often or more often is ahead
  pub ahead_lower : {p q : ℕ} → often q ≤ often p → p < q → Ahead often p q
  ahead_lower l k = elim (eq-or-lt_of_le l) [ inl e ↦ lower (sym e) k | inr m ↦ more m ]

  pub ahead_total : {p q : ℕ} → p ≢ q → Ahead often p q ⊎ Ahead often q p
  ahead_total {p} {q} d = elim (le_or_lt p q) [
    | inl l ↦ elim (le_or_lt (often q) (often p)) [ inl h ↦ inl (ahead_lower h (omega arith)) | inr h ↦ inr (more h) ]
    | inr l ↦ elim (le_or_lt (often p) (often q)) [ inl h ↦ inr (ahead_lower h l) | inr h ↦ inl (more h) ]
  ]

  -- who is ahead comes at least as often
  pub ahead_most : {p q : ℕ} → Ahead often p q → often q ≤ often p
  ahead_most (more l) = omega arith
  ahead_most (lower e l) = omega arith
