-- Numbers listed in the first places of a list, each once. Assumes nothing.
use Rattle.std.specs.Prelude.{ℕ, ◌≤◌, ◌<◌, ◌≡◌, List, length, get_or}

-- x stands at one of the first n places
pub record Among (list : List ℕ) (n x : ℕ) : Type 0 where
  pub at : ℕ
  pub low : at < n
  pub is : get_or list at 0 ≡ x

-- the first n places hold numbers below e, each once; there is room for e
pub record Listed (e n : ℕ) (list : List ℕ) : Type 0 where
  pub room : e ≤ length list
  pub inside : (k : ℕ) → k < n → get_or list k 0 < e
  pub once : (j k : ℕ) → j < n → k < n → get_or list j 0 ≡ get_or list k 0 → j ≡ k
