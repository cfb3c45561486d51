-- What stands at the places of a text, its end being a place like the others: a wrong byte and an early end are then one case. Assumes nothing.
use Rattle.std.specs.Prelude.{ℕ, zero, suc, ◌<◌, ◌≡◌, List, [], ◌∷◌}

-- one more than the byte at i, and 0 past the end
abbrev pub peek : List ℕ → ℕ → ℕ
peek [] i = 0
peek (b ∷ t) zero = suc b
peek (b ∷ t) (suc i) = peek t i

-- the same at the first n places
pub record Agree (t u : List ℕ) (n : ℕ) : Type 0 where
  pub same : (i : ℕ) → i < n → peek u i ≡ peek t i
