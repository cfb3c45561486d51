-- Lists one behind the other: each stands behind as many numbers as those before it have. Assumes nothing.
use Prim.Native.Nat.{ℕ, zero, suc, ◌<◌}
use mathlib.Core.Path.{◌≡◌, refl}
use mathlib.Core.Logic.{◌⊎◌, inl, inr}
use mathlib.Core.List.{List, ◌++◌, append_assoc}
use native.Mathlib.Nat.{eq-or-lt_of_le}
use native.Mathlib.Omega.{arith}
use lib.ListN.{length, take, drop, length-append}
use lib.Seq.{take_at, drop_at}
use Rattle.table.specs.Sum.{sum_below}
use Rattle.table.specs.Renumbered.{blocks}

module _ (b : ℕ → List ℕ) (len : ℕ → ℕ) where
  pub blocks_length : (n : ℕ) → ((k : ℕ) → k < n → length (b k) ≡ len k) → length (blocks b n) ≡ sum_below len n
  unfolding blocks sum_below
  blocks_length zero h = refl
  blocks_length (suc n) h = omega (arith, length-append (blocks b n) (b n), blocks_length n (λ k l. h k (omega arith)), h n (omega arith))

  pub block_at : (n k : ℕ) (rest : List ℕ) → k < n → ((j : ℕ) → j < n → length (b j) ≡ len j)
      → take (len k) (drop (sum_below len k) (blocks b n ++ rest)) ≡ b k
  unfolding blocks
  block_at zero k rest l h = absurd (omega arith)
  block_at (suc n) k rest l h =
      rw (append_assoc (blocks b n) (b n) rest) (go (eq-or-lt_of_le l) (λ m. block_at n k (b n ++ rest) m (λ j i. h j (omega arith))))
    where
      go : (suc k ≡ suc n) ⊎ (suc k < suc n) → (k < n → take (len k) (drop (sum_below len k) (blocks b n ++ (b n ++ rest))) ≡ b k)
          → take (len k) (drop (sum_below len k) (blocks b n ++ (b n ++ rest))) ≡ b k
      go (inl e) again =
          let q : k ≡ n = omega arith in
          let size = blocks_length n (λ j i. h j (omega arith)) in
          rw (q, drop_at (blocks b n) (b n ++ rest) (sum_below len n) size) (take_at (b n) rest (len n) (h n (omega arith)))
      go (inr m) again = again (omega arith)
