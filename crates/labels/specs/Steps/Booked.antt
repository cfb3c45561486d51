-- The labels of all types in one run of bytes, one after another, with the places at which each begins. Assumes nothing.
use Rattle.std.specs.Prelude.{ℕ, ◌+◌, ◌≤◌, ◌<◌, ◌≡◌, ◌≢◌, List, length, get_or}
use Prim.Native.Char.{code}
use Rattle.std.proofs.Math.Seq.{slice}
use Rattle.grammar.specs.Tree.{Declaration, Nth}
use Rattle.grammar.specs.Grammar.{Items}
use Rattle.model.specs.Tables.{names_of}
use Rattle.labels.specs.Labels.{label_of}

-- the label of type x: from its start to that of the next
abbrev pub label_in : List ℕ → List ℕ → ℕ → List ℕ
label_in names starts x = slice (get_or starts x 0) (get_or starts (x + 1) 0) names

-- no blank and no newline in it
pub record Plain (part : List ℕ) : Type 0 where
  pub blank : (k : ℕ) → k < length part → get_or part k 0 ≢ code " "
  pub newline : (k : ℕ) → k < length part → get_or part k 0 ≢ code "\n"

-- labels of e types that can be told apart in a line
pub record Labelled (label : ℕ → List ℕ) (e : ℕ) : Type 0 where
  pub short : (x : ℕ) → x < e → length (label x) ≤ 32
  pub plain : (x : ℕ) → x < e → Plain (label x)
  pub apart : (x y : ℕ) → x < e → y < e → label x ≡ label y → x ≡ y

-- names of at most 32 bytes
pub record Short (ds : List Declaration) : Type 0 where
  pub each : (i : ℕ) (d : Declaration) → Nth ds i d → length d.named ≤ 32

-- two ways to name the first e types that are one
abbrev pub Alike : (ℕ → List ℕ) → (ℕ → List ℕ) → ℕ → Type 0
Alike label other e = (x : ℕ) → x < e → label x ≡ other x

-- what putting the labels of e types of a text gives
pub record LabelsRead (t : List ℕ) (e : ℕ) (names starts : List ℕ) : Type 0 where
  pub names_size : length names ≡ 8192
  pub starts_size : length starts ≡ 257
  pub of : (ds : List Declaration) → Items t 0 ds → Short ds → length ds ≤ e → e ≤ 256 → Alike (label_in names starts) (label_of (names_of ds)) e
