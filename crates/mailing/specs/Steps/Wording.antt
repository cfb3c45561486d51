-- The parts of a line, each with a blank before it, and labels that a line has room for. Assumes nothing.
use Rattle.std.specs.Prelude.{ℕ, ◌≤◌, ◌<◌, List, [], ◌∷◌, ◌++◌, length}
use Prim.Native.Char.{code}
use Rattle.labels.specs.Steps.Booked.{label_in}
use Rattle.mailing.specs.declared.edit.Naming.{Naming}
use Rattle.mailing.specs.declared.edit.Naming.TheVariants.{Text, Insert, Delete, Replace}

abbrev pub after_blank : List ℕ → List ℕ
after_blank part = code " " ∷ part

unfoldable pub blanked : List (List ℕ) → List ℕ
blanked [] = []
blanked (part ∷ rest) = after_blank part ++ blanked rest

-- the label of x is at most 32 bytes long
pub record Brief (names starts : List ℕ) (x : ℕ) : Type 0 where
  pub type : x < 256
  pub short : length (label_in names starts x) ≤ 32

-- so is that of each type that is named
abbrev pub AllBrief : List ℕ → List ℕ → Naming → Type 0
AllBrief names starts (Text x) = Brief names starts x
AllBrief names starts (Insert x child) = Brief names starts x × Brief names starts child
AllBrief names starts (Delete x child) = Brief names starts x × Brief names starts child
AllBrief names starts (Replace x from to) = Brief names starts x × Brief names starts from × Brief names starts to
