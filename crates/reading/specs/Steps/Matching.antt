-- A text that stands in a listing at a place, and what looking for one, or for one of many, answers. Assumes nothing.
use Rattle.std.specs.Prelude.{ℕ, ◌+◌, ◌≤◌, ◌<◌, ◌≡◌, List, [], ◌∷◌, ◌++◌, length, Option, MatchOption}
use Prim.Native.Char.{code}
use Rattle.std.proofs.Math.Seq.{slice}
use Rattle.listing.specs.Line.{sign_of}
use Rattle.listing.specs.Faults.{IsSet}
use Rattle.reading.specs.declared.matching.Ended.{Ended}

-- from a to b stands the text w
pub record Stands (t : List ℕ) (a : ℕ) (w : List ℕ) (b : ℕ) : Type 0 where
  pub end : b ≡ a + length w
  pub within : b ≤ length t
  pub is : slice a b t ≡ w

-- a part and the byte that ends it
abbrev pub ended : List ℕ → ℕ → List ℕ
ended part stop = part ++ (stop ∷ [])

-- a part and the blank behind it
abbrev pub blanked : List ℕ → List ℕ
blanked part = ended part (code " ")

-- the place behind the text, if it stands there
abbrev pub Matched : List ℕ → ℕ → List ℕ → Option ℕ → Type 0
Matched t a w r = MatchOption r ((b : ℕ) → ¬ Stands t a w b) (Stands t a w)

-- a number between two whose text stands there, and the place behind it
pub record EndedAt (w : ℕ → List ℕ) (t : List ℕ) (a from to number end : ℕ) : Type 0 where
  pub low : from ≤ number
  pub below : number < to
  pub stands : Stands t a (w number) end

-- one of the numbers between two whose text stands there, with the place behind it, if there is one
abbrev pub Sought : (ℕ → List ℕ) → List ℕ → ℕ → ℕ → ℕ → Option Ended → Type 0
Sought w t a from to r = MatchOption r ((k b : ℕ) → from ≤ k → k < to → ¬ Stands t a (w k) b) (λ e. EndedAt w t a from to e.number e.end)

-- the mark is set, and its sign stands there with a blank behind it
pub record Signed (t : List ℕ) (a mark : ℕ) : Type 0 where
  pub mark_set : IsSet mark
  pub stands : Stands t a (blanked (sign_of mark)) (a + 2)

-- the mark whose sign stands there with a blank behind it, if there is one
abbrev pub SignRead : List ℕ → ℕ → Option ℕ → Type 0
SignRead t a r = MatchOption r ((m b : ℕ) → IsSet m → ¬ Stands t a (blanked (sign_of m)) b) (Signed t a)
