-- The decimal digits of a number are the fewest that hold it. Assumes nothing.
use Rattle.std.proofs.Common.{ℕ, zero, suc, ◌+◌, ◌-◌, ◌*◌, ◌/◌, ◌%◌, ◌^◌, ◌≤◌, ◌<◌, ◌≡◌, refl, subst, Bool, true, false, List, [], ◌∷◌, ◌++◌, pow-suc, zero-lt-suc, arith, ltb-true, ltb-false, ltb, get_or}
use Rattle.std.proofs.Math.Nat.{one-le-pow, pow-le-pow_right}
use Rattle.io.specs.Digits.{hex_digit_ascii, last_digits, IsDigitCount}
use Rattle.lines.specs.Text.{raised, decimal_within}

pub raised_none : (l : List ℕ) → raised 0 l ≡ l
raised_none [] = refl
raised_none (b ∷ l) = let e : b + 0 ≡ b = omega arith in rw (e, raised_none l)

below_is : (a b : ℕ) → a < b → ltb a b ≡ true
below_is a b l = go (ltb a b) refl
  where
    go : (t : Bool) → ltb a b ≡ t → ltb a b ≡ true
    go true e = e
    go false e = absurd (omega (arith, ltb-false a b e))

above_is : (a b : ℕ) → b ≤ a → ltb a b ≡ false
above_is a b l = go (ltb a b) refl
  where
    go : (t : Bool) → ltb a b ≡ t → ltb a b ≡ false
    go true e = absurd (omega (arith, ltb-true a b e))
    go false e = e

glyph_digit : (d : ℕ) → d < 10 → hex_digit_ascii d ≡ 48 + d
glyph_digit d l = rw (below_is d 10 l)

pub decimal_digits : (f k n : ℕ) → k ≤ f → IsDigitCount 10 1 n k → last_digits 10 k n ≡ decimal_within f n
unfolding decimal_within
decimal_digits f zero n h (a, b, c) = absurd (omega arith)
decimal_digits zero (suc k) n h w = absurd (omega arith)
decimal_digits (suc f) (suc zero) n h (a, b, c) =
    let l : n < 10 = b in
    let e : n % 10 ≡ n = omega arith in
    rw (below_is n 10 l, e, glyph_digit n l)
decimal_digits (suc f) (suc (suc k)) n h (a, b, c) =
    let most : 10 ^ suc (suc k) ≡ 10 ^ suc k * 10 = pow-suc 10 (suc k) in
    let some : 10 ^ suc k ≡ 10 ^ k * 10 = pow-suc 10 k in
    let above : suc (suc k) - 1 ≡ suc k = omega arith in
    let under : suc k - 1 ≡ k = omega arith in
    let l : 10 ^ suc k ≤ n = subst (λ (m : ℕ). 10 ^ m ≤ n) above (c (omega arith)) in
    let one : 1 ≤ 10 ^ k = one-le-pow k 10 (omega arith) in
    let rest : last_digits 10 (suc k) (n / 10) ≡ decimal_within f (n / 10) = decimal_digits f (suc k) (n / 10) (omega arith)
    (omega arith, omega (arith, most, b), λ h. rw under (omega (arith, some, l))) in
    rw (above_is n 10 (omega (arith, some, one, l)), glyph_digit (n % 10) (omega arith), rest)

-- 20 digits hold every number of 64 bits
pub fewest_most : (n k : ℕ) → n < 18446744073709551616 → IsDigitCount 10 1 n k → k ≤ 20
fewest_most n k s (a, b, c) = go (ltb 20 k) refl
  where
    go : (t : Bool) → ltb 20 k ≡ t → k ≤ 20
    go false e = ltb-false 20 k e
    go true e =
        let l : 20 < k = ltb-true 20 k e in
        let big : 10 ^ 20 ≤ 10 ^ (k - 1) = let m : 20 ≤ k - 1 = omega arith in pow-le-pow_right (zero-lt-suc 9) m in
        absurd (omega (arith, big, c (omega arith)))

append_byte : (l : List ℕ) (x j : ℕ) → ((i : ℕ) → get_or l i 0 < 128) → x < 128 → get_or (l ++ (x ∷ [])) j 0 < 128
append_byte [] x zero h s = s
append_byte [] x (suc j) h s = omega arith
append_byte (a ∷ l) x zero h s = h 0
append_byte (a ∷ l) x (suc j) h s = append_byte l x j (λ i. h (suc i)) s

pub digits_bytes : (k n j : ℕ) → get_or (last_digits 10 k n) j 0 < 128
digits_bytes zero n j = omega arith
digits_bytes (suc k) n j =
    append_byte (last_digits 10 k (n / 10)) (hex_digit_ascii (n % 10)) j (digits_bytes k (n / 10)) (omega (arith, glyph_digit (n % 10) (omega arith)))
