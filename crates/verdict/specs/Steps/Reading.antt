-- What is asked below a type: worked out from the marks where no entries are lent, and else read from them. Assumes nothing.
use Rattle.std.specs.Prelude.{ℕ, ◌*◌, ◌≤◌, ◌<◌, ◌≡◌, ◌≢◌, List, length}
use Rattle.table.specs.Words.{types}
use Rattle.verdict.specs.Below.{ForbiddenBelow, ForbiddenTally}
use Rattle.verdict.specs.Breaches.{BreachBy, IsBreach, FirstSpot, FirstBreach, Verdict}
use Rattle.verdict.specs.Kept.{entry_of, KeptBelow, KeptBreach, KeptVerdict}
use Rattle.verdict.specs.Steps.Spoils.{Flags}
use Rattle.verdict.specs.declared.Breach.{Breach}
use Rattle.verdict.specs.declared.Spot.{Spot}
use Rattle.verdict.specs.declared.below.Tally.{Tally}
use Rattle.verdict.specs.declared.breaches.Breaker.{Breaker}
use Rattle.verdict.specs.declared.breaches.Breaker.TheVariants.{Own, Below}

-- a flag: 0 where the count is, else 1
pub data FlagOf (count r : ℕ) : Type 0 where
  none : count ≡ 0 → r ≡ 0 → FlagOf count r
  some : count ≢ 0 → r ≡ 1 → FlagOf count r

-- entries are lent for all types, or none are
abbrev pub Lent : List ℕ → List ℕ → Type 0
Lent ws kept = length kept ≢ 0 → 2 * types ws ≤ length kept

-- what holds by the marks where no entries are lent, and by the entries where they are
pub record Either (kept : List ℕ) (Worked Read : Type 0) : Type 0 where
  pub worked : length kept ≡ 0 → Worked
  pub read : length kept ≢ 0 → Read

-- the flags tell of what is forbidden below each type, or of what is kept
abbrev pub FlagsBy : List ℕ → List ℕ → List ℕ → List ℕ → List ℕ → Type 0
FlagsBy ws marks kept old new = Either kept (Flags ws (ForbiddenBelow ws marks) old new) (Flags ws (KeptBelow kept) old new)

-- what is forbidden below type y, or what is kept of it
abbrev pub AskedOf : List ℕ → List ℕ → List ℕ → ℕ → Tally → Type 0
AskedOf ws marks kept y r = Either kept (ForbiddenTally ws marks y r) (r ≡ entry_of kept y)

-- a child that is asked for is a type
abbrev pub ChildIn : List ℕ → Breaker → Type 0
ChildIn ws (Own p) = p ≡ p
ChildIn ws (Below y) = y < types ws

-- what breaks a spot: a privilege by itself, or what is asked of a child
abbrev pub TallyBy : List ℕ → List ℕ → List ℕ → Breaker → Tally → Type 0
TallyBy ws marks kept (Own p) r = r ≡ record { lowest = p; count = 1 }
TallyBy ws marks kept (Below y) r = AskedOf ws marks kept y r

-- the spot is the first, by the marks or by what is kept; and the breach there; and the verdict
abbrev pub FirstBy : List ℕ → List ℕ → List ℕ → Spot → Type 0
FirstBy ws marks kept s = Either kept (FirstSpot (IsBreach ws marks) s) (FirstSpot (BreachBy ws marks (KeptBelow kept)) s)

abbrev pub BrokenBy : List ℕ → List ℕ → List ℕ → Breach → Type 0
BrokenBy ws marks kept b = Either kept (FirstBreach ws marks b) (KeptBreach ws marks kept b)

abbrev pub VerdictBy : List ℕ → List ℕ → List ℕ → Breach → Type 0
VerdictBy ws marks kept b = Either kept (Verdict ws marks b) (KeptVerdict ws marks kept b)
