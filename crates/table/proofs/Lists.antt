-- Parts of a list. Assumes nothing.
use Prim.Native.Nat.{ℕ, zero, suc, ◌+◌, ◌-◌, ◌≤◌, ◌<◌, min}
use mathlib.Core.Path.{◌≡◌, sym, ◌∙◌}
use mathlib.Core.Logic.{◌⊎◌, inl, inr}
use mathlib.Core.List.{List, []}
use native.Mathlib.Omega.{arith}
use native.Mathlib.Nat.{eq-or-lt_of_le}
use lib.ListN.{length, get_or, set, take, drop, length-drop, drop_of_length-le}
use lib.Seq.{take_all, take-nil, get_or-set_same, get_or-set_other}

pub le_or_lt : (a b : ℕ) → (a ≤ b) ⊎ (b < a)
le_or_lt zero b = inl (omega arith)
le_or_lt (suc a) zero = inr (omega arith)
le_or_lt (suc a) (suc b) = elim (le_or_lt a b) [ inl h ↦ inl (omega arith) | inr h ↦ inr (omega arith) ]

-- the stretch from a to b, taken within the list
pub stretch_within : (ws : List ℕ) (a b s e : ℕ) → e ≡ min b (length ws) → s ≡ min a e → take (e - s) (drop s ws) ≡ take (b - a) (drop a ws)
stretch_within ws a b s e he hs = go (le_or_lt a e) (le_or_lt b (length ws))
  where
    past : (n : ℕ) → length ws - a ≤ n → take n (drop a ws) ≡ drop a ws
    past n h = take_all n (drop a ws) (omega (arith, length-drop a ws))

    none : (n i : ℕ) → n ≡ 0 → take n (drop i ws) ≡ []
    none n i z = rw z

    go : (a ≤ e) ⊎ (e < a) → (b ≤ length ws) ⊎ (length ws < b) → take (e - s) (drop s ws) ≡ take (b - a) (drop a ws)
    go (inl h) (inl k) = let x : s ≡ a = omega arith in let y : e ≡ b = omega arith in rw (x, y)
    go (inl h) (inr k) =
        let x : s ≡ a = omega arith in
        rw x (past (e - a) (omega arith) ∙ sym (past (b - a) (omega arith)))
    go (inr h) (inl k) = none (e - s) s (omega arith) ∙ sym (none (b - a) a (omega arith))
    go (inr h) (inr k) =
        let x : drop a ws ≡ [] = drop_of_length-le ws {i = a} (omega arith) in
        none (e - s) s (omega arith) ∙ sym (rw x (take-nil (b - a)))

-- a list that is written from the front: one more place holds what it should
pub fill_more : (P : ℕ → ℕ → Type 0) (l : List ℕ) (k v : ℕ) → k < length l → ((j : ℕ) → j < k → P j (get_or l j 0)) → P k v
    → (j : ℕ) → j < k + 1 → P j (get_or (set l k v) j 0)
fill_more P l k v h g new j m = go (eq-or-lt_of_le m)
  where
    go : (suc j ≡ k + 1) ⊎ (suc j < k + 1) → P j (get_or (set l k v) j 0)
    go (inl e) = let q : j ≡ k = omega arith in rw (q, get_or-set_same l k v 0 h) new
    go (inr n) = rw (get_or-set_other l k j v 0 (omega arith)) (g j (omega arith))
