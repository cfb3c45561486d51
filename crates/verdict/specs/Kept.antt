-- The verdict by what is kept: "its verdict reads what is kept, count 0 meaning none" (document 02, order 11). It is the first breach as ever, with the
-- kept answer in place of what is forbidden below a type. Assumes nothing.
use Rattle.std.specs.Prelude.{ℕ, ◌+◌, ◌*◌, ◌≡◌, ◌≢◌, List, get_or}
use Rattle.verdict.specs.Breaches.{no_breach, spot_of, chain_in, BreachBy, FirstSpot, ChainAt, PassesOn}
use Rattle.verdict.specs.declared.Breach.{Breach}
use Rattle.verdict.specs.declared.Spot.{Spot}
use Rattle.verdict.specs.declared.below.Tally.{Tally}

-- the entry of type t: "what order 8's question answers, as 16-bit words 2t and 2t + 1"
abbrev pub entry_of : List ℕ → ℕ → Tally
entry_of kept t = record { lowest = get_or kept (2 * t) 0; count = get_or kept (2 * t + 1) 0 }

-- by what is kept, p is the lowest that is forbidden below type y; where the count is 0 there is none
pub record KeptBelow (kept : List ℕ) (y p : ℕ) : Type 0 where
  pub some : (entry_of kept y).count ≢ 0
  pub lowest : p ≡ (entry_of kept y).lowest

-- what is kept answers the question
abbrev pub KeptTally : List ℕ → ℕ → Tally → Type 0
KeptTally kept y r = r ≡ entry_of kept y

-- the first breach by what is kept: at the first spot, with the kept numbers passed on, and the chain
pub record KeptBreach (ws marks kept : List ℕ) (b : Breach) : Type 0 where
  pub spot : FirstSpot (BreachBy ws marks (KeptBelow kept)) (spot_of b)
  pub breach : BreachBy ws marks (KeptBelow kept) (spot_of b) b.privilege
  pub count : PassesOn ws marks (KeptTally kept) b
  pub chain : ChainAt ws marks (spot_of b) (chain_in b)

-- no breach if there is none by what is kept, else the first
pub data KeptVerdict (ws marks kept : List ℕ) (b : Breach) : Type 0 where
  clean : ((s : Spot) (p : ℕ) → ¬ BreachBy ws marks (KeptBelow kept) s p) → b ≡ no_breach → KeptVerdict ws marks kept b
  broken : KeptBreach ws marks kept b → KeptVerdict ws marks kept b
