-- What is answered once the names are right: the table's own numbers, 12, or the table. Assumes nothing.
use Rattle.std.specs.Prelude.{ℕ, ◌≤◌, ◌<◌, ◌≡◌, List, ◌++◌, length, drop, Result, Ok, Err}
use Rattle.table.specs.declared.check.Check.{Check}
use Rattle.table.specs.Check.{Refused, Accepted, number_of}
use Rattle.table.specs.Words.{types, count_at}
use Rattle.table.specs.Privilege.{privileges}
use Rattle.grammar.specs.Tree.{Declaration}
use Rattle.model.specs.Tables.{rules_of, kids_of_all}
use Rattle.dtd.specs.declared.finish.TooWide.{TooWide}

pub data Last (ws out : List ℕ) (number place : ℕ) (after : List ℕ) : Type 0 where
  last_refused : (check : Check) → number ≡ number_of check → Refused ws check place → after ≡ out → Last ws out number place after
  last_short : number ≡ 12 → place ≡ 0 → Accepted ws → length out < length ws → after ≡ out → Last ws out number place after
  last_done : number ≡ 0 → place ≡ privileges ws → Accepted ws → length ws ≤ length out → after ≡ ws ++ drop (length ws) out → Last ws out number place after

-- a table that is not too large
pub record Small (ds : List Declaration) : Type 0 where
  pub some : 1 ≤ length ds
  pub types_few : length (rules_of ds) ≤ 256
  pub kids_few : length (kids_of_all (rules_of ds)) ≤ 1024

-- no type below t has over 16 children
abbrev pub Few : List ℕ → ℕ → Type 0
Few ws t = (j : ℕ) → j < t → count_at ws j ≤ 16

-- V, if no type has over 16 children; else the lowest that has
abbrev pub TotalRead : List ℕ → Result ℕ TooWide → Type 0
TotalRead ws (Ok v) = (v ≡ privileges ws) × Few ws (types ws)
TotalRead ws (Err wide) = (wide.element < types ws) × (16 < count_at ws wide.element) × Few ws wide.element
