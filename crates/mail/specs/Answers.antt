-- What writing and reading a listing answer, and what the lent result holds afterwards: "1 for the format, then order 3's with V by that format, then when
-- writing 10 and 11; when reading, 25 .., 26 ..; 12 if the result is short"; "a done write's place is its length" (document 02, order 10). Assumes nothing.
use Rattle.std.specs.Prelude.{ℕ, ◌≤◌, ◌<◌, ◌≡◌, List, ◌∷◌, ◌++◌, length, drop}
use Rattle.table.specs.Privilege.{privileges}
use Rattle.policy.specs.Marks.{Fit, Unfit}
use Rattle.grammar.specs.Tree.{Declaration}
use Rattle.model.specs.Tables.{names_of, table_of}
use Rattle.dtd.specs.Answer.{KnownFormat, NoTable, Tabled}
use Rattle.labels.specs.Labels.{label_of}
use Rattle.listing.specs.Listing.{ListingOf}
use Rattle.listing.specs.Faults.{FirstFault}

-- a text that has a table in a format
pub record Schema (t : List ℕ) (format : ℕ) (d : Declaration) (ds : List Declaration) : Type 0 where
  pub known : KnownFormat format
  pub tabled : Tabled t format d ds

-- why there is none
pub data NoSchema (t : List ℕ) (format number place : ℕ) : Type 0 where
  no_format : ¬ KnownFormat format → number ≡ 1 → place ≡ 0 → NoSchema t format number place
  no_table : KnownFormat format → NoTable t format number place → NoSchema t format number place

-- the labels of the types of these declarations
abbrev pub labels_of : List Declaration → ℕ → List ℕ
labels_of ds = label_of (names_of ds)

-- V marks, and the listing of them
pub record Listed (label : ℕ → List ℕ) (ws marks listing : List ℕ) : Type 0 where
  pub fit : Fit (privileges ws) marks
  pub lists : ListingOf label ws marks listing

-- writing by a table and the labels of its types; out is the result as lent, after what it holds then
pub data Written (label : ℕ → List ℕ) (ws marks out : List ℕ) (number place : ℕ) (after : List ℕ) : Type 0 where
  -- 10, 11
  no_marks : Unfit 10 (privileges ws) marks number place → after ≡ out → Written label ws marks out number place after
  -- 12
  no_room : {listing : List ℕ} → Listed label ws marks listing → length out < length listing → number ≡ 12 → place ≡ 0 → after ≡ out
      → Written label ws marks out number place after
  -- the listing, and the rest as it was
  written : {listing : List ℕ} → Listed label ws marks listing → length listing ≤ length out → number ≡ 0 → place ≡ length listing
      → after ≡ listing ++ drop (length listing) out → Written label ws marks out number place after

-- reading
pub data ReadFrom (label : ℕ → List ℕ) (ws listing out : List ℕ) (number place : ℕ) (after : List ℕ) : Type 0 where
  -- 25, 26
  no_listing : FirstFault label ws listing number place → after ≡ out → ReadFrom label ws listing out number place after
  -- 12
  no_room_for_marks : {marks : List ℕ} → Listed label ws marks listing → length out < privileges ws → number ≡ 12 → place ≡ 0 → after ≡ out
      → ReadFrom label ws listing out number place after
  -- the marks whose listing it is, and the rest as it was
  marks_read : {marks : List ℕ} → Listed label ws marks listing → privileges ws ≤ length out → number ≡ 0 → place ≡ 0
      → after ≡ marks ++ drop (privileges ws) out → ReadFrom label ws listing out number place after

-- a call by DTD text and a format: refused with 1, 20 to 22, 4, 7 to 9 or 19 for these, or as Told says
pub data BySchema (t : List ℕ) (format : ℕ) (Told : (ℕ → List ℕ) → List ℕ → Type 0) (out : List ℕ) (number place : ℕ) (after : List ℕ) : Type 0 where
  no_schema : NoSchema t format number place → after ≡ out → BySchema t format Told out number place after
  by_schema : {d : Declaration} {ds : List Declaration} → Schema t format d ds → Told (labels_of (d ∷ ds)) (table_of format (d ∷ ds))
      → BySchema t format Told out number place after

abbrev pub WriteAnswer : List ℕ → ℕ → List ℕ → List ℕ → ℕ → ℕ → List ℕ → Type 0
WriteAnswer t format marks out number place after =
    BySchema t format (λ label ws. Written label ws marks out number place after) out number place after

abbrev pub ReadAnswer : List ℕ → ℕ → List ℕ → List ℕ → ℕ → ℕ → List ℕ → Type 0
ReadAnswer t format listing out number place after =
    BySchema t format (λ label ws. ReadFrom label ws listing out number place after) out number place after
