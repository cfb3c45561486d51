-- A byte by its eight bits, and a map by its bytes. Assumes nothing.
use Prim.Native.Nat.{ℕ, zero, suc, ◌+◌, ◌*◌, ◌/◌, ◌%◌, ◌^◌, ◌<◌}
use mathlib.Core.Path.{◌≡◌, refl, sym, ap, ◌∙◌}
use mathlib.Core.Bool.{Bool, true, false, cond}
use mathlib.Core.List.{List}
use native.Mathlib.Nat.{pow-suc, div-one}
use native.Mathlib.Omega.{arith}
use lib.Dec.{eqb}
use lib.ListN.{get_or}
use lib.Pow.{shr-shr}
use Rattle.pairs.specs.Maps.{bit_of, IsSet, is_mark, byte_of}

-- n bits as a number, the first the lowest
abbrev digits : ℕ → (ℕ → ℕ) → ℕ
digits zero b = 0
digits (suc n) b = b 0 + 2 * digits n (λ j. b (suc j))

half_of : (x j : ℕ) → x / 2 / 2 ^ j ≡ x / 2 ^ suc j
half_of x j = shr-shr x 1 j ∙ ap (λ (k : ℕ). x / 2 ^ k) (omega arith)

digits_same : (n : ℕ) (b c : ℕ → ℕ) → ((j : ℕ) → j < n → b j ≡ c j) → digits n b ≡ digits n c
digits_same zero b c e = refl
digits_same (suc n) b c e = omega (arith, e 0 (omega arith), digits_same n (λ j. b (suc j)) (λ j. c (suc j)) (λ j l. e (suc j) (omega arith)))

digits_few : (n : ℕ) (b : ℕ → ℕ) → ((j : ℕ) → b j < 2) → digits n b < 2 ^ n
digits_few zero b few = omega arith
digits_few (suc n) b few = rw (pow-suc 2 n) (omega (arith, few 0, digits_few n (λ j. b (suc j)) (λ j. few (suc j))))

digits_bit : (n : ℕ) (b : ℕ → ℕ) → ((j : ℕ) → b j < 2) → (j : ℕ) → j < n → digits n b / 2 ^ j % 2 ≡ b j
digits_bit zero b few j l = absurd (omega arith)
digits_bit (suc n) b few zero l = ap (λ (x : ℕ). x % 2) (div-one (digits (suc n) b)) ∙ omega (arith, few 0)
digits_bit (suc n) b few (suc j) l =
    let rest = digits n (λ k. b (suc k)) in
    let half : digits (suc n) b / 2 ≡ rest = omega (arith, few 0) in
    ap (λ (x : ℕ). x % 2) (sym (half_of (digits (suc n) b) j) ∙ ap (λ (x : ℕ). x / 2 ^ j) half)
    ∙ digits_bit n (λ k. b (suc k)) (λ k. few (suc k)) j (omega arith)

digits_of : (n x : ℕ) → x < 2 ^ n → digits n (λ j. x / 2 ^ j % 2) ≡ x
digits_of zero x l = omega arith
digits_of (suc n) x l =
    let low : x / 2 ^ 0 % 2 ≡ x % 2 = ap (λ (y : ℕ). y % 2) (div-one x) in
    let small : x / 2 < 2 ^ n = omega (arith, rw (pow-suc 2 n) at l) in
    let high : digits n (λ j. x / 2 ^ suc j % 2) ≡ x / 2
    = digits_same n (λ j. x / 2 ^ suc j % 2) (λ j. x / 2 / 2 ^ j % 2) (λ j h. ap (λ (y : ℕ). y % 2) (sym (half_of x j))) ∙ digits_of n (x / 2) small
    in
    ap (λ (y : ℕ). y + 2 * digits n (λ j. x / 2 ^ suc j % 2)) low ∙ ap (λ (y : ℕ). x % 2 + 2 * y) high ∙ omega arith

byte_digits : (b : ℕ → ℕ) → byte_of b ≡ digits 8 b
byte_digits b = omega arith

-- a byte is that of its bits, and has them
pub byte_of_lem : (x : ℕ) → x < 256 → byte_of (λ j. x / 2 ^ j % 2) ≡ x
byte_of_lem x l = byte_digits (λ j. x / 2 ^ j % 2) ∙ digits_of 8 x l

pub byte_bit : (b : ℕ → ℕ) → ((j : ℕ) → b j < 2) → (j : ℕ) → j < 8 → byte_of b / 2 ^ j % 2 ≡ b j
byte_bit b few j l = ap (λ (x : ℕ). x / 2 ^ j % 2) (byte_digits b) ∙ digits_bit 8 b few j l

-- bits that are the same make the same byte
pub byte_same : (b c : ℕ → ℕ) → ((j : ℕ) → j < 8 → b j ≡ c j) → byte_of b ≡ byte_of c
byte_same b c e = byte_digits b ∙ digits_same 8 b c e ∙ sym (byte_digits c)

-- a number by its place in a byte
pub place_byte : (k j : ℕ) → j < 8 → (8 * k + j) / 8 ≡ k
place_byte k j l = omega arith

pub place_bit : (k j : ℕ) → j < 8 → (8 * k + j) % 8 ≡ j
place_bit k j l = omega arith

pub place_of : (p : ℕ) → p ≡ 8 * (p / 8) + p % 8
place_of p = omega arith

-- the bit at place j of byte k
pub bit_at : (map : List ℕ) (k j : ℕ) → j < 8 → bit_of map (8 * k + j) ≡ get_or map k 0 / 2 ^ j % 2
bit_at map k j l = rw (place_byte k j l, place_bit k j l) refl

pub bit_few : (map : List ℕ) (p : ℕ) → bit_of map p < 2
bit_few map p = omega arith

-- a bit that is not set is 0
pub bit_clear : (map : List ℕ) (p : ℕ) → ¬ IsSet map p → bit_of map p ≡ 0
bit_clear map p d = omega (arith, bit_few map p)

-- whether a privilege has a mark
pub mark_few : (mark : ℕ) (marks : List ℕ) (p : ℕ) → is_mark mark marks p < 2
mark_few mark marks p = go (eqb (get_or marks p 0) mark)
  where
    go : (b : Bool) → cond b 1 0 < 2
    go true = omega arith
    go false = omega arith
