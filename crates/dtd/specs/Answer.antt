-- What reading DTD text answers (document 02, order 3, "Refusals"): 20 and 21, of which "the earliest byte decides, then the lower number"; "then 22"; "then
-- the table's own numbers, then 12"; or the table, with V as its place. A refusal leaves `out` as it was. Assumes nothing.
use Rattle.std.specs.Prelude.{ℕ, ◌≤◌, ◌<◌, ◌≡◌, ◌⊎◌, List, ◌∷◌, ◌++◌, length, drop}
use Rattle.table.specs.declared.check.Check.{Check}
use Rattle.table.specs.Check.{Refused, Accepted, number_of}
use Rattle.table.specs.Privilege.{privileges}
use Rattle.grammar.specs.Tree.{Declaration}
use Rattle.grammar.specs.Grammar.{Text}
use Rattle.grammar.specs.Stops.{Stops}
use Rattle.grammar.specs.Limits.{Over}
use Rattle.model.specs.Names.{Misnamed}
use Rattle.model.specs.Tables.{rules_of, kids_of_all, table_of}

-- a table's format is 1 or 2
abbrev pub KnownFormat : ℕ → Type 0
KnownFormat format = (format ≡ 1) ⊎ (format ≡ 2)

-- "or, at the length, over 256 types or 1,024 child entries"
pub data Large (t : List ℕ) (k : ℕ) : Type 0 where
  many_types : {d : Declaration} {ds : List Declaration} → k ≡ length t → Text t d ds → 256 < length (rules_of (d ∷ ds)) → Large t k
  many_children : {d : Declaration} {ds : List Declaration} → k ≡ length t → Text t d ds → 1024 < length (kids_of_all (rules_of (d ∷ ds))) → Large t k

-- 21
abbrev pub TooLarge : List ℕ → ℕ → Type 0
TooLarge t k = Over t k ⊎ Large t k

-- the text has this tree and passes no limit
pub record Read (t : List ℕ) (d : Declaration) (ds : List Declaration) : Type 0 where
  pub text : Text t d ds
  pub small : (k : ℕ) → ¬ TooLarge t k

-- and its names are all declared, each once
pub record Named (t : List ℕ) (d : Declaration) (ds : List Declaration) : Type 0 where
  pub read : Read t d ds
  pub right : (k : ℕ) → ¬ Misnamed (d ∷ ds) k

-- why a text has no table: "the earliest byte of 20 and 21 decides, then the lower number"; "then 22"; "then the table's own numbers"
pub data NoTable (t : List ℕ) (format number place : ℕ) : Type 0 where
  no_text : number ≡ 20 → Stops t place → ((j : ℕ) → j < place → ¬ TooLarge t j) → NoTable t format number place
  too_large : number ≡ 21 → TooLarge t place → ((j : ℕ) → j < place → ¬ TooLarge t j) → ((j : ℕ) → j ≤ place → ¬ Stops t j)
      → NoTable t format number place
  misnamed : {d : Declaration} {ds : List Declaration} → number ≡ 22 → Read t d ds → Misnamed (d ∷ ds) place
      → ((j : ℕ) → j < place → ¬ Misnamed (d ∷ ds) j) → NoTable t format number place
  no_table : {d : Declaration} {ds : List Declaration} (check : Check) → number ≡ number_of check → Named t d ds
      → Refused (table_of format (d ∷ ds)) check place → NoTable t format number place

-- a text that has a table
pub record Tabled (t : List ℕ) (format : ℕ) (d : Declaration) (ds : List Declaration) : Type 0 where
  pub named : Named t d ds
  pub accepted : Accepted (table_of format (d ∷ ds))

pub data DtdAnswer (t out : List ℕ) (format number place : ℕ) (after : List ℕ) : Type 0 where
  refused : NoTable t format number place → after ≡ out → DtdAnswer t out format number place after
  too_short : {d : Declaration} {ds : List Declaration} → number ≡ 12 → place ≡ 0 → Tabled t format d ds
      → length out < length (table_of format (d ∷ ds)) → after ≡ out → DtdAnswer t out format number place after
  done : {d : Declaration} {ds : List Declaration} → number ≡ 0 → place ≡ privileges (table_of format (d ∷ ds)) → Tabled t format d ds
      → length (table_of format (d ∷ ds)) ≤ length out → after ≡ table_of format (d ∷ ds) ++ drop (length (table_of format (d ∷ ds))) out
      → DtdAnswer t out format number place after
