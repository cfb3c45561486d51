-- What changed between a pair of maps and a proposed pair, a byte of each map at a time. Assumes nothing.
use Rattle.std.specs.Prelude.{ℕ, ◌/◌, ◌%◌, ◌^◌, ◌<◌, ◌≡◌, ◌≢◌, ◌⊎◌, get_or}
use Rattle.policy.specs.Steps.Squares.{Flags}
use Rattle.pairs.specs.Maps.{Maps}

-- bit j of a byte
abbrev pub bit_in : ℕ → ℕ → ℕ
bit_in byte j = byte / 2 ^ j % 2

-- eight privileges by their byte in each map, allowed, forbidden, proposed allowed, proposed forbidden: a bit of privilege j of them changed
abbrev pub ChangedIn : ℕ → ℕ → ℕ → ℕ → ℕ → Type 0
ChangedIn a f b g j = (bit_in a j ≢ bit_in b j) ⊎ (bit_in f j ≢ bit_in g j)

-- and not from allowed to forbidden
abbrev pub OtherIn : ℕ → ℕ → ℕ → ℕ → ℕ → Type 0
OtherIn a f b g j = ChangedIn a f b g j × ¬ ((bit_in a j ≡ 1) × (bit_in g j ≡ 1))

-- the same of the privilege at bit j of byte k
abbrev pub OtherAt : Maps → Maps → ℕ → ℕ → Type 0
OtherAt m n k j = OtherIn (get_or m.allowed k 0) (get_or m.forbidden k 0) (get_or n.allowed k 0) (get_or n.forbidden k 0) j

-- a byte that has the bit of each of eight that has P, and no other
pub record Picked (P : ℕ → Type 0) (byte : ℕ) : Type 0 where
  pub fits : byte < 256
  pub tells : (j : ℕ) → j < 8 → Flags (P j) (bit_in byte j)
