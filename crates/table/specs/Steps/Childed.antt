-- What checks 2 to 5 give, and 2 to 7: the types' children can be read. Assumes nothing.
use Rattle.std.specs.Prelude.{ℕ, ◌+◌, ◌≤◌, ◌<◌, List}
use Rattle.table.specs.Words.{types, kind_at, count_at}
use Rattle.table.specs.Rule.{children_at}
use Rattle.table.specs.Check.{Laid, RightCount, Follows, Inside, Differ}

pub record Tiled (ws : List ℕ) : Type 0 where
  pub laid : Laid ws
  pub kinds : (t : ℕ) → t < types ws → kind_at ws t ≤ 4
  pub counts : (t : ℕ) → t < types ws → RightCount (kind_at ws t) (count_at ws t)
  pub follow : (t : ℕ) → t < types ws + 1 → Follows ws t

pub record Childed (ws : List ℕ) : Type 0 where
  pub tiled : Tiled ws
  pub inside : (t : ℕ) → t < types ws → Inside (types ws) (children_at ws t)
  pub differ : (t : ℕ) → t < types ws → Differ (children_at ws t)
