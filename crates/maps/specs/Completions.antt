-- The least completion over two bit maps (demand 3, in the words of order 7 of document 02: the allowed bits and the forbidden bits). Assumes nothing.
use Rattle.std.specs.Prelude.{ℕ, ◌<◌, ◌⊎◌, List}
use Rattle.table.specs.Privilege.{privileges}
use Rattle.verdict.specs.Conditions.{Clean}
use Rattle.pairs.specs.Maps.{Maps, IsSet, Paired, marks_for}

-- n keeps every bit that is set in m
pub record KeepsBits (m n : Maps) : Type 0 where
  pub allowed : (p : ℕ) → IsSet m.allowed p → IsSet n.allowed p
  pub forbidden : (p : ℕ) → IsSet m.forbidden p → IsSet n.forbidden p

-- n is a fully decided pair of maps that keeps every bit set in m, and its marks pass the three conditions
pub record CompletesMaps (ws : List ℕ) (m n : Maps) : Type 0 where
  pub paired : Paired (privileges ws) n
  pub decided : (p : ℕ) → p < privileges ws → IsSet n.allowed p ⊎ IsSet n.forbidden p
  pub keeps : KeepsBits m n
  pub clean : Clean ws (marks_for ws n)

-- n is such a pair, and allows only what every such pair allows
pub record LeastMaps (ws : List ℕ) (m n : Maps) : Type 0 where
  pub completes : CompletesMaps ws m n
  pub least : (o : Maps) → CompletesMaps ws m o → (p : ℕ) → IsSet n.allowed p → IsSet o.allowed p
