-- "Lowest at the first difference": lists of numbers are compared number by number (document 01, the order of breaches; document 02, orders 6 and 13).
-- Assumes nothing.
use Rattle.std.specs.Prelude.{ℕ, ◌<◌, List, ◌∷◌}

-- at the first difference the first of two lists is lower
pub data Lex : List ℕ → List ℕ → Type 0 where
  less : {a b : ℕ} {s t : List ℕ} → a < b → Lex (a ∷ s) (b ∷ t)
  same : {a : ℕ} {s t : List ℕ} → Lex s t → Lex (a ∷ s) (a ∷ t)
