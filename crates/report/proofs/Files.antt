-- The words of a file one by one, and the part of them that is lent. Assumes nothing.
use Rattle.std.proofs.Common.{ℕ, zero, suc, ◌+◌, ◌*◌, ◌-◌, ◌/◌, ◌≤◌, ◌<◌, ◌≡◌, refl, List, [], ◌∷◌, arith, length, get_or, take, drop, length-take, length-drop, take_all}
use native.Mathlib.Nat.{min-le_right}
use Rattle.report.specs.File.{words_of, table_of}

pub words_size : (file : List ℕ) → length (words_of file) ≡ length file / 2
unfolding words_of
words_size [] = refl
words_size (b ∷ []) = refl
words_size (low ∷ high ∷ rest) = omega (arith, words_size rest)

pub words_at : (file : List ℕ) (k : ℕ) → k < length file / 2 → get_or file (2 * k) 0 + 256 * get_or file (2 * k + 1) 0 ≡ get_or (words_of file) k 0
unfolding words_of
words_at [] k h = absurd (omega arith)
words_at (b ∷ []) k h = absurd (omega arith)
words_at (low ∷ high ∷ rest) zero h = refl
words_at (low ∷ high ∷ rest) (suc k) h =
    let low-at : 2 * suc k ≡ suc (suc (2 * k)) = omega arith in
    let high-at : suc (suc (2 * k)) + 1 ≡ suc (suc (2 * k + 1)) = omega arith in
    rw (low-at, high-at) (words_at rest k (omega arith))

pub table_room : (file : List ℕ) → 2 * length (table_of file) ≤ length file
table_room file =
    let ws = words_of file in
    omega (arith, words_size file, length-take (get_or ws 1 (length ws)) ws, min-le_right (get_or ws 1 (length ws)) (length ws))

-- all behind a place is the rest
pub rest_all : (n : ℕ) (l : List ℕ) → take (length l - n) (drop n l) ≡ drop n l
rest_all n l = take_all (length l - n) (drop n l) (omega (arith, length-drop n l))
