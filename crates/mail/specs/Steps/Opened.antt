-- A schema that was read into words. Assumes nothing.
use Rattle.std.specs.Prelude.{ℕ, ◌≤◌, ◌≡◌, ◌≢◌, List, ◌∷◌, length, get_or, take}
use Rattle.table.specs.Privilege.{privileges}
use Rattle.grammar.specs.Tree.{Declaration}
use Rattle.model.specs.Tables.{table_of}
use Rattle.listing.specs.Listing.{ListingOf}
use Rattle.mail.specs.Answers.{Schema, NoSchema}

-- these words are the table of the text in this format
pub record Opened (t : List ℕ) (format : ℕ) (words : List ℕ) : Type 0 where
  pub head : Declaration
  pub tail : List Declaration
  pub schema : Schema t format head tail
  pub is : words ≡ table_of format (head ∷ tail)

-- what reading it answers: why there is none, or V, with the words at the front of a run, as many as word 1 says
pub data SchemaRead (t : List ℕ) (format number place : ℕ) (run : List ℕ) : Type 0 where
  refused : number ≢ 0 → NoSchema t format number place → SchemaRead t format number place run
  opened : number ≡ 0 → place ≡ privileges (take (get_or run 1 0) run) → get_or run 1 0 ≤ length run → Opened t format (take (get_or run 1 0) run)
      → SchemaRead t format number place run

-- r is the length of the listing of these marks
pub record Sized (label : ℕ → List ℕ) (ws marks : List ℕ) (r : ℕ) : Type 0 where
  pub lines : List ℕ
  pub lists : ListingOf label ws marks lines
  pub size : r ≡ length lines
