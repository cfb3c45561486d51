-- The labels so far, and what entering one more of them gives. Assumes nothing.
use Rattle.std.specs.Prelude.{ℕ, suc, ◌+◌, ◌*◌, ◌≤◌, ◌<◌, ◌≡◌, List, ◌∷◌, length, get_or}
use Prim.Native.Char.{code}
use Rattle.grammar.specs.Tree.{Declaration}
use Rattle.grammar.specs.Grammar.{Items}
use Rattle.model.specs.Tables.{names_of}
use Rattle.labels.specs.Labels.{decimal, label_of}
use Rattle.labels.specs.Steps.Booked.{label_in, Short}

-- the labels of the first x types stand one after another, each of at most 32 bytes, up to the start of type x
pub record Booking (label : ℕ → List ℕ) (names starts : List ℕ) (x : ℕ) : Type 0 where
  pub few : get_or starts x 0 ≤ 32 * x
  pub before : (y : ℕ) → y < x → get_or starts (y + 1) 0 ≤ get_or starts x 0
  pub each : (y : ℕ) → y < x → label_in names starts y ≡ label y

abbrev pub made_label : ℕ → List ℕ
made_label x = code "#" ∷ decimal x

-- a name is entered as the label of type x
pub record Entered (name names starts : List ℕ) (x : ℕ) (named started : List ℕ) : Type 0 where
  pub names_kept : length named ≡ length names
  pub starts_kept : length started ≡ length starts
  pub of : (label : ℕ → List ℕ) → label x ≡ name → length name ≤ 32 → x < 256 → Booking label names starts x → Booking label named started (suc x)

-- the names of the declared types are entered, and counted
pub record DeclaredRead (t names starts named started : List ℕ) (count : ℕ) : Type 0 where
  pub names_kept : length named ≡ length names
  pub starts_kept : length started ≡ length starts
  pub of : (ds : List Declaration) → Items t 0 ds → Short ds → length ds ≤ 256
      → (count ≡ length ds) × Booking (label_of (names_of ds)) named started count
