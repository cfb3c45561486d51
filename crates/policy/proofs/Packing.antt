-- Numbers by their digits of m bits: eight marks are eight digits, the mask leaves the lowest bit of each, and the product puts those side
-- by side; a row with a gap opened or closed is two parts side by side. Assumes nothing.
use Prim.Native.Nat.{ℕ, zero, suc, ◌+◌, ◌-◌, ◌*◌, ◌/◌, ◌%◌, ◌^◌, ◌≤◌, ◌<◌}
use mathlib.Core.Path.{◌≡◌, refl, sym, ap, ◌∙◌}
use mathlib.Core.Logic.{inl, inr}
use native.Mathlib.Nat.{mul-suc, mod-lt, mod-eq_of_lt, zero-lt-suc}
use native.Mathlib.Omega.{arith}
use lib.Arith.{digits_lt}
use lib.Bits.{bit_and, and_block, and_mask, and_zero_r}
use lib.Pow.{pow_pos, pow_mono, pow-add, split, mod-mod-pow}
use Rattle.table.proofs.Lists.{le_or_lt}
use Rattle.policy.specs.Steps.Squares.{bit}
use Rattle.policy.specs.Steps.Packed.{place_of, Gathered, Sixteen, Opened, Closed}
use Rattle.policy.proofs.Bits.{bit_from, bit_high, bit_below, beside_low, beside_high, double_low, double_high}

-- n digits of m bits as one number, the first the lowest
abbrev number : ℕ → ℕ → (ℕ → ℕ) → ℕ
number m zero digit = 0
number m (suc n) digit = number m n (λ k. digit (suc k)) * 2 ^ m + digit 0

abbrev Digits : ℕ → ℕ → (ℕ → ℕ) → Type 0
Digits m n digit = (k : ℕ) → k < n → digit k < 2 ^ m

number_few : (m n : ℕ) (digit : ℕ → ℕ) → Digits m n digit → number m n digit < 2 ^ (m * n)
number_few m zero digit few = pow_pos (m * 0)
number_few m (suc n) digit few =
    rw (mul-suc m n, pow-add 2 (m * n) m)
    (digits_lt (number_few m n (λ k. digit (suc k)) (λ k l. few (suc k) (omega arith))) (few 0 (omega arith)))

number_bit : (m n : ℕ) (digit : ℕ → ℕ) → Digits m n digit → (k j p : ℕ) → p ≡ m * k + j → k < n → j < m → bit (number m n digit) p ≡ bit (digit k) j
number_bit m zero digit few k j p e l h = absurd (omega arith)
number_bit m (suc n) digit few zero j p e l h = let f : p ≡ j = omega arith in rw f (beside_low m (number m n (λ i. digit (suc i))) (few 0 (omega arith)) j h)
number_bit m (suc n) digit few (suc k) j p e l h =
    beside_high m (number m n (λ i. digit (suc i))) (few 0 (omega arith)) (m * k + j) p (omega (arith, mul-suc m k))
    ∙ number_bit m n (λ i. digit (suc i)) (λ i g. few (suc i) (omega arith)) k j (m * k + j) refl (omega arith) h

-- which of eight digits is the mark at k
abbrev digit_of : ℕ → ℕ
digit_of k = 2 * (k % 4) + k / 4

-- the lowest bits of digits of four bits, which is what the mask leaves
abbrev lowest : ℕ → ℕ → ℕ
lowest t zero = t % 2
lowest t (suc k) = lowest (t / 16) k

lowest_few : (t k : ℕ) → lowest t k < 2
lowest_few t zero = omega arith
lowest_few t (suc k) = lowest_few (t / 16) k

lowest_bit : (t k p : ℕ) → p ≡ 4 * k → bit (lowest t k) 0 ≡ bit t p
lowest_bit t zero p e = rw e (bit_below 1 t 0 (omega arith))
lowest_bit t (suc k) p e = lowest_bit (t / 16) k (4 * k) refl ∙ bit_from 4 t (4 * k) p (omega arith)

masked : (n t : ℕ) → bit_and t (number 4 n (λ k. 1)) ≡ number 4 n (lowest t)
masked zero t = and_zero_r t
masked (suc n) t =
    ap (λ (x : ℕ). bit_and x (number 4 (suc n) (λ k. 1))) (sym (split t 4))
    ∙ and_block 4 (t / 16) (number 4 n (λ k. 1)) (t % 16) 1 (omega arith) (omega arith)
    ∙ ap (λ (x : ℕ). x * 16 + bit_and (t % 16) 1) (masked n (t / 16))
    ∙ ap (λ (x : ℕ). number 4 n (lowest (t / 16)) * 16 + x) (and_mask (t % 16) 1 ∙ mod-mod-pow t 3 1)

-- the product puts them side by side
middle : (low mid high : ℕ) → low < 2097152 → mid < 256 → (low + 2097152 * (mid + 256 * high)) / 2097152 % 256 ≡ mid
middle low mid high l m = omega arith

side_by_side : (f : ℕ → ℕ) → ((k : ℕ) → f k < 2) → number 4 8 f * 2113665 / 2097152 % 256 ≡ number 1 8 (λ k. f (digit_of k))
side_by_side f few =
    let low = 16513 * f 0 + 264208 * f 1 + 33024 * f 2 + 528384 * f 3 + 65536 * f 4 + 1048576 * f 5 in
    let mid = number 1 8 (λ k. f (digit_of k)) in
    let high = f 2 + 16 * f 3 + 258 * f 4 + 4128 * f 5 + 66052 * f 6 + 1056832 * f 7 in
    let sum : number 4 8 f * 2113665 ≡ low + 2097152 * (mid + 256 * high) = omega arith in
    ap (λ (x : ℕ). x / 2097152 % 256) sum
    ∙ middle low mid high
    (omega (arith, few 0, few 1, few 2, few 3, few 4, few 5))
    (number_few 1 8 (λ k. f (digit_of k)) (λ k l. few (digit_of k)))

pub gathers : (t : ℕ) → Gathered t (bit_and t 286331153 * 2113665 / 2097152 % 256)
gathers t = record {
  small = mod-lt (bit_and t 286331153 * 2113665 / 2097152) (zero-lt-suc 255);
  bits = λ k l.
      ap (λ (x : ℕ). bit x k) (ap (λ (x : ℕ). x * 2113665 / 2097152 % 256) (masked 8 t) ∙ side_by_side (lowest t) (lowest_few t))
      ∙ number_bit 1 8 (λ i. lowest t (digit_of i)) (λ i h. lowest_few t (digit_of i)) k 0 k (omega arith) l (omega arith)
      ∙ lowest_bit t (digit_of k) (place_of k) (omega arith);
}

-- two eights are two bytes side by side
pub joins_eights : {first second a b : ℕ} → Gathered first a → Gathered second b → Sixteen first second (a + 256 * b)
joins_eights {a = a} {b = b} f s =
    let e : a + 256 * b ≡ b * 256 + a = omega arith in
    record {
      small = omega (arith, f.small, s.small);
      low = λ k l. ap (λ (x : ℕ). bit x k) e ∙ beside_low 8 b f.small k l ∙ f.bits k l;
      high = λ k l. ap (λ (x : ℕ). bit x (8 + k)) e ∙ beside_high 8 b f.small k (8 + k) refl ∙ s.bits k l;
    }

-- a word whose lowest i bits are those of a row, and whose others are the bits of another
module _ (i row other : ℕ) {word : ℕ} (parts : word ≡ other * 2 ^ i + row % 2 ^ i) where
  parts_low : (j : ℕ) → j < i → bit word j ≡ bit row j
  parts_low j l = ap (λ (x : ℕ). bit x j) parts ∙ beside_low i other (mod-lt row (pow_pos i)) j l ∙ bit_below i row j l

  parts_high : (j k : ℕ) → j ≡ i + k → bit word j ≡ bit other k
  parts_high j k e = ap (λ (x : ℕ). bit x j) parts ∙ beside_high i other (mod-lt row (pow_pos i)) k j e

-- a gap opened at i: the bits of the row's own from i on stand one place up
own_small : (w k l : ℕ) → k ≤ l → w % 2 ^ k < 2 ^ l
own_small w k l h = omega (arith, pow_mono h, mod-lt w (pow_pos k))

own_few : (w k : ℕ) → k ≤ 16 → w % 2 ^ k < 65536
own_few w k h = own_small w k 16 h

-- it fits in 16 bits where the row's own are under 16, or the gap stands past them
pub gap_fits : (width i bits : ℕ) → width ≤ 16 → (i < 16 → width < 16) → bits % 2 ^ width + (bits % 2 ^ width - bits % 2 ^ width % 2 ^ i) < 65536
gap_fits width i bits few h = elim (le_or_lt 16 i) [
  | inl l ↦ let all : bits % 2 ^ width % 2 ^ i ≡ bits % 2 ^ width = mod-eq_of_lt (own_small bits width i (omega arith)) in omega (arith, all, own_few bits width few)
  | inr l ↦ omega (arith, own_small bits width 15 (omega (arith, h l)))
]

pub gap_opens : (width i bits : ℕ) → bits % 2 ^ width + (bits % 2 ^ width - bits % 2 ^ width % 2 ^ i) < 65536 → Opened width i bits (bits % 2 ^ width + (bits % 2 ^ width - bits % 2 ^ width % 2 ^ i))
gap_opens width i bits fits =
    let own = bits % 2 ^ width in
    let up = 2 * (own / 2 ^ i) + 0 in
    let parts : own + (own - own % 2 ^ i) ≡ up * 2 ^ i + own % 2 ^ i = omega (arith, split own i) in
    record {
      fits = fits;
      before = λ j l g. parts_low i own up parts j l ∙ bit_below width bits j g;
      here = parts_high i own up parts i 0 (omega arith) ∙ double_low (own / 2 ^ i) 0 (zero-lt-suc 1);
      behind = λ j l g.
          parts_high i own up parts (suc j) (suc (j - i)) (omega arith)
          ∙ double_high (own / 2 ^ i) 0 (j - i) (zero-lt-suc 1)
          ∙ bit_from i own (j - i) j (omega arith)
          ∙ bit_below width bits j g;
    }

-- a gap closed at i: the bits behind i stand one place down
module _ (i row : ℕ) where
  abbrev closed : ℕ
  closed = row % 2 ^ i + (row / 2 - row / 2 % 2 ^ i)

  closed_parts : closed ≡ row / 2 / 2 ^ i * 2 ^ i + row % 2 ^ i
  closed_parts = omega (arith, split (row / 2) i)

  pub closes : Closed i row closed
  closes = record {
    before = parts_low i row (row / 2 / 2 ^ i) closed_parts;
    behind = λ j l. parts_high i row (row / 2 / 2 ^ i) closed_parts j (j - i) (omega arith) ∙ bit_from i (row / 2) (j - i) j (omega arith) ∙ sym (bit_high row j);
  }
