-- What is forbidden in some types, counted type by type as they are listed. Assumes nothing.
use Rattle.std.specs.Prelude.{ℕ, ◌+◌, ◌<◌, min, ◌≡◌, ◌≢◌, List, get_or}
use Rattle.table.specs.Words.{types}
use Rattle.table.specs.Below.{Below}
use Rattle.table.specs.HowMany.{Tallied}
use Rattle.table.specs.Privilege.{Belongs, privileges}
use Rattle.table.specs.Steps.Flags.{Flags}
use Rattle.policy.specs.Marks.{Forbidden}
use Rattle.verdict.specs.declared.below.Tally.{Tally}
use Rattle.editing.specs.declared.growing.Grown.{Grown}

-- nothing is listed
abbrev pub no_grown : Grown
no_grown = record { listed = 0; tally = record { lowest = 0; count = 0 } }

-- two tallies of different privileges together
pub data Together (a b r : Tally) : Type 0 where
  second : a.count ≡ 0 → r ≡ b → Together a b r
  first : b.count ≡ 0 → r ≡ a → Together a b r
  both : a.count ≢ 0 → b.count ≢ 0 → r.lowest ≡ min a.lowest b.lowest → r.count ≡ a.count + b.count → Together a b r

-- privilege p is forbidden, and of one of the first n types of a list
pub record ForbiddenListed (ws marks list : List ℕ) (n p : ℕ) : Type 0 where
  pub at : ℕ
  pub low : at < n
  pub belongs : Belongs ws p (get_or list at 0)
  pub forbidden : Forbidden marks p

-- the flagged types are the n that are listed; each is a type; and what is forbidden in them is counted
pub record Reach (ws marks flags list : List ℕ) (g : Grown) : Type 0 where
  pub flags_are : Flags g.listed flags list
  pub inside : (k : ℕ) → k < g.listed → get_or list k 0 < types ws
  pub tally : Tallied (ForbiddenListed ws marks list g.listed) (privileges ws) g.tally.lowest g.tally.count

-- the children of what is flagged are flagged, and all of it is below y
pub record Within (ws flags list : List ℕ) (n y : ℕ) : Type 0 where
  pub closed : (k : ℕ) → k < n → (z : ℕ) → Below ws z (get_or list k 0) → get_or flags z 0 ≡ 1
  pub below : (k : ℕ) → k < n → Below ws (get_or list k 0) y

-- what is flagged is all that is below y
pub record Whole (ws marks flags list : List ℕ) (y : ℕ) (g : Grown) : Type 0 where
  pub reach : Reach ws marks flags list g
  pub within : Within ws flags list g.listed y
  pub itself : get_or flags y 0 ≡ 1
