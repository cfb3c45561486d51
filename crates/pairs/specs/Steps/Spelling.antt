-- What spelling maps into marks writes, and marks into maps. Assumes nothing.
use Rattle.std.specs.Prelude.{ℕ, ◌+◌, ◌*◌, ◌/◌, ◌%◌, ◌^◌, ◌≤◌, ◌<◌, ◌≡◌, ◌⊎◌, List, length, get_or}
use Rattle.pairs.specs.Maps.{Maps, mark_of, is_mark, byte_of}

-- the marks that a byte of each map spells stand from a place on, and the rest is as it was
pub record ByteSpelled (a f at : ℕ) (old new : List ℕ) : Type 0 where
  pub size : length new ≡ length old
  pub each : (j : ℕ) → j < 8 → get_or new (at + j) 0 ≡ a / 2 ^ j % 2 + 2 * (f / 2 ^ j % 2)
  pub rest : (p : ℕ) → (p < at) ⊎ (at + 8 ≤ p) → get_or new p 0 ≡ get_or old p 0

-- the marks that n bytes of each map spell, and the rest is as it was
pub record Spelled (n : ℕ) (m : Maps) (old new : List ℕ) : Type 0 where
  pub size : length new ≡ length old
  pub each : (p : ℕ) → p < 8 * n → get_or new p 0 ≡ mark_of m p
  pub rest : (p : ℕ) → 8 * n ≤ p → get_or new p 0 ≡ get_or old p 0

-- a run of 4,096 holds the marks n at its front, and zeros behind them
pub record Holds (n run : List ℕ) : Type 0 where
  pub size : length run ≡ 4096
  pub each : (p : ℕ) → get_or run p 0 ≡ get_or n p 0

-- each byte is that of its eight marks
pub record Unspelled (mark : ℕ) (marks map : List ℕ) (old : List ℕ) : Type 0 where
  pub size : length map ≡ length old
  pub each : (k : ℕ) → k < length map → get_or map k 0 ≡ byte_of (λ j. is_mark mark marks (8 * k + j))
