-- Known pairs of maps: what they spell, and that their marks spell them; and what is wrong with some. Assumes nothing.
use Prim.Native.Nat.{ℕ}
use mathlib.Core.Path.{◌≡◌, refl}
use mathlib.Core.List.{List, [], ◌∷◌, map}
use lib.ListN.{length}
use Rattle.pairs.specs.Maps.{Maps, maps, marks_of, maps_of}

pub record Row : Type 0 where
  pub pair : Maps
  pub marks : List ℕ

abbrev row : List ℕ → List ℕ → List ℕ → Row
row a f marks = record { pair = maps a f; marks = marks }

-- no privilege; one; seven; eight; nine; the eleven of the sample, whose vendor has 2 allowed and 1 forbidden; all eleven decided
abbrev pub rows : List Row
rows =
    row [] [] []
    ∷ row (1 ∷ []) (0 ∷ []) (1 ∷ [])
    ∷ row (0 ∷ []) (64 ∷ []) (0 ∷ 0 ∷ 0 ∷ 0 ∷ 0 ∷ 0 ∷ 2 ∷ [])
    ∷ row (129 ∷ []) (66 ∷ []) (1 ∷ 2 ∷ 0 ∷ 0 ∷ 0 ∷ 0 ∷ 2 ∷ 1 ∷ [])
    ∷ row (0 ∷ 1 ∷ []) (255 ∷ 0 ∷ []) (2 ∷ 2 ∷ 2 ∷ 2 ∷ 2 ∷ 2 ∷ 2 ∷ 2 ∷ 1 ∷ [])
    ∷ row (3 ∷ 0 ∷ []) (8 ∷ 0 ∷ []) (1 ∷ 1 ∷ 0 ∷ 2 ∷ 0 ∷ 0 ∷ 0 ∷ 0 ∷ 0 ∷ 0 ∷ 0 ∷ [])
    ∷ row (128 ∷ 6 ∷ []) (127 ∷ 1 ∷ []) (2 ∷ 2 ∷ 2 ∷ 2 ∷ 2 ∷ 2 ∷ 2 ∷ 1 ∷ 2 ∷ 1 ∷ 1 ∷ [])
    ∷ []

abbrev again : Row → Row
again r = record { pair = maps_of r.marks; marks = marks_of (length r.marks) r.pair }

pub spelled : map again rows ≡ rows
spelled = refl
