-- What breaks a spot: a privilege of its type by itself, or what is forbidden below a child; and the breach that it makes. Assumes nothing.
use Rattle.std.specs.Prelude.{ℕ, ◌<◌, ◌≡◌, List}
use Rattle.table.specs.Words.{types}
use Rattle.table.specs.Rule.{child_at}
use Rattle.table.specs.Privilege.{exchange_of, replace_of}
use Rattle.policy.specs.Renewed.{Barred}
use Rattle.verdict.specs.Breaches.{spot_of, chain_in, BreachBy, ChainAt}
use Rattle.verdict.specs.declared.Breach.{Breach}
use Rattle.verdict.specs.declared.Spot.{Spot}
use Rattle.verdict.specs.declared.Condition.TheVariants.{InsertDelete, Chain, Cycle}
use Rattle.verdict.specs.declared.below.Tally.{Tally}
use Rattle.verdict.specs.declared.breaches.Breaker.{Breaker}
use Rattle.verdict.specs.declared.breaches.Breaker.TheVariants.{Own, Below}

-- anything is taken for forbidden below a type
abbrev pub Anything : ℕ → ℕ → Type 0
Anything y p = p ≡ p

-- the spot is broken if what is asked below a child is there
abbrev pub Breakable : List ℕ → List ℕ → Spot → Type 0
Breakable ws marks s = (p : ℕ) × BreachBy ws marks Anything s p

-- what breaks the spot
pub data BreakerAt (ws marks : List ℕ) (s : Spot) : Breaker → Type 0 where
  exchange : {p : ℕ} → s.condition ≡ InsertDelete → Barred ws marks s.element → p ≡ exchange_of ws s.element → BreakerAt ws marks s (Own p)
  replacement : {p : ℕ} → s.condition ≡ Chain → p ≡ replace_of ws s.element s.i s.j → BreakerAt ws marks s (Own p)
  star : {y : ℕ} → s.condition ≡ InsertDelete → ¬ Barred ws marks s.element → y < types ws → y ≡ child_at ws s.element 0 → BreakerAt ws marks s (Below y)
  cycle : {y : ℕ} → s.condition ≡ Cycle → y < types ws → y ≡ child_at ws s.element s.i → BreakerAt ws marks s (Below y)

-- the breach at the spot, with what was told of what breaks it
pub record BreachWith (ws marks : List ℕ) (s : Spot) (told : Tally) (b : Breach) : Type 0 where
  pub at : spot_of b ≡ s
  pub privilege : b.privilege ≡ told.lowest
  pub forbidden : b.forbidden ≡ told.count
  pub chain : ChainAt ws marks s (chain_in b)
