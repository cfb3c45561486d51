-- The order of names: by their bytes, a name before those that go on behind it. Assumes nothing.
use Rattle.std.specs.Prelude.{ℕ, ◌<◌, List, [], ◌∷◌}

-- the first is the second, or stands before it
pub data Upto : List ℕ → List ℕ → Type 0 where
  ends : {m : List ℕ} → Upto [] m
  lower : {a b : ℕ} {n m : List ℕ} → a < b → Upto (a ∷ n) (b ∷ m)
  alike : {a : ℕ} {n m : List ℕ} → Upto n m → Upto (a ∷ n) (a ∷ m)
