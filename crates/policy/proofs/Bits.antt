-- The bits of a word: of its parts, of its double, of two words joined, of one that is written from its highest bit down. Assumes nothing.
use Prim.Native.Nat.{ℕ, zero, suc, ◌+◌, ◌-◌, ◌*◌, ◌/◌, ◌%◌, ◌^◌, ◌≤◌, ◌<◌, min}
use mathlib.Core.Path.{◌≡◌, refl, sym, ap, subst, ◌∙◌}
use mathlib.Core.Bool.{Bool, true, false, not, cond, ◌||◌, ◌&&◌, true≢false}
use native.Mathlib.Nat.{pow-suc, mul_comm, div-one, zero-div, div-eq_of_lt, pow-le-pow_right, zero-lt-suc, one-mul}
use native.Mathlib.Decide.{ℕ_discrete}
use native.Mathlib.Omega.{arith}
use lib.Bits.{bit_or, bit_and, bit_xor, and_shr, and_mod, or_shr, or_mod, xor_shr, xor_mod, and_mask, and_le_l}
use mathlib.Core.Logic.{◌≢◌, ◌⊎◌, inl, inr}
use mathlib.Core.List.{List}
use lib.Count.{count_trailing_zeros, under}
use lib.Dec.{eqb}
use lib.ListN.{length, get_or, set, length-set}
use lib.Seq.{get_or-set_same, get_or-set_other}
use lib.Pow.{shl_exact, shr-shr, high, low, field, mod-mod-pow}
use Rattle.table.specs.Steps.Found.{Tells}
use Rattle.table.proofs.Lists.{le_or_lt}
use Rattle.table.proofs.Lowest.{tells_by}
use Rattle.policy.specs.Steps.Squares.{bit, marked, Flags, on, off, Row, Toggled, Inside, Positions, Shared, LowestShared, Into}
use Rattle.policy.proofs.SquareLaws.{flags_tell}

-- the bit that a shift and a mask read
pub bit_read : (word j : ℕ) → eqb (bit_and (word / 2 ^ j) 1) 1 ≡ bit word j
bit_read word j = ap (λ (r : ℕ). eqb r 1) (and_mask (word / 2 ^ j) 1)

joins : (a b : ℕ) → a < 2 → b < 2 → eqb (bit_or a b) 1 ≡ (eqb a 1 || eqb b 1)
joins zero zero ha hb = refl
joins zero (suc zero) ha hb = refl
joins (suc zero) zero ha hb = refl
joins (suc zero) (suc zero) ha hb = refl
joins zero (suc (suc b)) ha hb = absurd (omega arith)
joins (suc zero) (suc (suc b)) ha hb = absurd (omega arith)
joins (suc (suc a)) b ha hb = absurd (omega arith)

pub bit_or_lem : (a b j : ℕ) → bit (bit_or a b) j ≡ (bit a j || bit b j)
bit_or_lem a b j =
    ap (λ (r : ℕ). eqb (r % 2) 1) (or_shr a b j)
    ∙ ap (λ (r : ℕ). eqb r 1) (or_mod (a / 2 ^ j) (b / 2 ^ j) 1)
    ∙ joins (a / 2 ^ j % 2) (b / 2 ^ j % 2) (omega arith) (omega arith)

meets : (a b : ℕ) → a < 2 → b < 2 → eqb (bit_and a b) 1 ≡ (eqb a 1 && eqb b 1)
meets zero zero ha hb = refl
meets zero (suc zero) ha hb = refl
meets (suc zero) zero ha hb = refl
meets (suc zero) (suc zero) ha hb = refl
meets zero (suc (suc b)) ha hb = absurd (omega arith)
meets (suc zero) (suc (suc b)) ha hb = absurd (omega arith)
meets (suc (suc a)) b ha hb = absurd (omega arith)

bit_and_lem : (a b j : ℕ) → bit (bit_and a b) j ≡ (bit a j && bit b j)
bit_and_lem a b j =
    ap (λ (r : ℕ). eqb (r % 2) 1) (and_shr a b j)
    ∙ ap (λ (r : ℕ). eqb r 1) (and_mod (a / 2 ^ j) (b / 2 ^ j) 1)
    ∙ meets (a / 2 ^ j % 2) (b / 2 ^ j % 2) (omega arith) (omega arith)

bit_none : (j : ℕ) → bit 0 j ≡ false
bit_none j = ap (λ (r : ℕ). eqb (r % 2) 1) (zero-div (2 ^ j))

-- the bits from m on, and those below m
pub bit_from : (m w j k : ℕ) → k ≡ m + j → bit (w / 2 ^ m) j ≡ bit w k
bit_from m w j k e = rw e (ap (λ (x : ℕ). eqb (x % 2) 1) (shr-shr w m j))

pub bit_high : (w j : ℕ) → bit w (suc j) ≡ bit (w / 2) j
bit_high w j = sym (bit_from 1 w j (suc j) (omega arith))

pub bit_below : (m w j : ℕ) → j < m → bit (w % 2 ^ m) j ≡ bit w j
bit_below m w j l =
    let more = m - suc j in
    let e : m ≡ more + 1 + j = omega arith in
    ap (λ (x : ℕ). bit (w % 2 ^ x) j) e
    ∙ ap (λ (x : ℕ). eqb (x % 2) 1) (field w (more + 1) j)
    ∙ ap (λ (x : ℕ). eqb x 1) (mod-mod-pow (w / 2 ^ j) more 1)

-- the bits below the lowest that is 1
clear_under : (d t w : ℕ) → w % 2 ≡ d → ((j : ℕ) → j < t → bit (w / 2) j ≡ false) → (j : ℕ) → j < under d t → bit w j ≡ false
clear_under zero t w e rest zero l = sym (bit_below 1 w 0 (omega arith)) ∙ rw e (bit_none 0)
clear_under zero t w e rest (suc j) l = bit_high w j ∙ rest j (omega arith)
clear_under (suc d) t w e rest j l = absurd (omega arith)

zeros_clear : (k w j : ℕ) → j < count_trailing_zeros k w → bit w j ≡ false
unfolding count_trailing_zeros
zeros_clear zero w j l = absurd (omega arith)
zeros_clear (suc k) w j l = clear_under (w % 2) (count_trailing_zeros k (w / 2)) w refl (zeros_clear k (w / 2)) j l

-- and the lowest itself, where there is one
zeros_low : (d t w : ℕ) → w % 2 ≡ d → (w % 2 ≡ 0 → bit (w / 2) t ≡ true) → bit w (under d t) ≡ true
zeros_low zero t w e rest = bit_high w t ∙ rest e
zeros_low (suc d) t w e rest =
    let odd : w % 2 ≡ 1 = omega arith in
    ap (λ (x : ℕ). eqb (x % 2) 1) (div-one w) ∙ ap (λ (x : ℕ). eqb x 1) odd

zeros_set : (k w : ℕ) → w < 2 ^ k → w ≢ 0 → bit w (count_trailing_zeros k w) ≡ true
unfolding count_trailing_zeros
zeros_set zero w l d = absurd (d (omega arith))
zeros_set (suc k) w l d = zeros_low (w % 2) (count_trailing_zeros k (w / 2)) w refl
    (λ e. zeros_set k (w / 2) (omega (arith, rw (pow-suc 2 k) at l)) (λ z. d (omega arith)))

-- the bits that two words share are those of their meet: none below its lowest, and none at all where it is 0
meet_both : (a b j : ℕ) → bit (bit_and a b) j ≡ true → (bit a j ≡ true) × (bit b j ≡ true)
meet_both a b j e = go (bit a j) (bit b j) refl refl (sym (bit_and_lem a b j) ∙ e)
  where
    go : (p q : Bool) → bit a j ≡ p → bit b j ≡ q → (p && q) ≡ true → (bit a j ≡ true) × (bit b j ≡ true)
    go true true f g h = (f, g)
    go true false f g h = absurd (true≢false (sym h))
    go false q f g h = absurd (true≢false (sym h))

meet_apart : (a b j : ℕ) → bit (bit_and a b) j ≡ false → ¬ ((bit a j ≡ true) × (bit b j ≡ true))
meet_apart a b j e (p, q) = true≢false (sym (bit_and_lem a b j ∙ rw (p, q) refl) ∙ e)

module _ (a b : ℕ) where
  pub none_shared : bit_and a b ≡ 0 → (j : ℕ) → ¬ ((bit a j ≡ true) × (bit b j ≡ true))
  none_shared e j = meet_apart a b j (rw e (bit_none j))

  module _ (some : bit_and a b ≢ 0) (small : a < 65536) where
    abbrev lowest : ℕ
    lowest = count_trailing_zeros 16 (bit_and a b)

    at_lowest : (bit a lowest ≡ true) × (bit b lowest ≡ true)
    at_lowest = meet_both a b lowest (zeros_set 16 (bit_and a b) (omega (arith, and_le_l a b)) some)

    pub some_shared : Shared a b
    some_shared = record { at = lowest; left = at_lowest.0; right = at_lowest.1 }

    pub lowest_shared : {count r : ℕ} → r ≡ min lowest count → LowestShared a b count r
    lowest_shared {count} {r} e = record {
      within = omega (arith, e);
      free = λ q l. meet_apart a b q (zeros_clear 16 (bit_and a b) q (omega (arith, e)));
      here = λ l. let h : r ≡ lowest = omega (arith, e) in rw h at_lowest;
    }

-- two words side by side, the lower one of m bits
module _ (m a : ℕ) {b : ℕ} (few : b < 2 ^ m) where
  pub beside_low : (j : ℕ) → j < m → bit (a * 2 ^ m + b) j ≡ bit b j
  beside_low j l = sym (bit_below m (a * 2 ^ m + b) j l) ∙ ap (λ (x : ℕ). bit x j) (low a m few)

  pub beside_high : (j k : ℕ) → k ≡ m + j → bit (a * 2 ^ m + b) k ≡ bit a j
  beside_high j k e = sym (bit_from m (a * 2 ^ m + b) j k e) ∙ ap (λ (x : ℕ). bit x j) (high a m few)

pub double_low : (r s : ℕ) → s < 2 → bit (2 * r + s) 0 ≡ eqb s 1
double_low r s h =
    let low : (2 * r + s) % 2 ≡ s = omega arith in
    ap (λ (x : ℕ). eqb (x % 2) 1) (div-one (2 * r + s)) ∙ ap (λ (x : ℕ). eqb x 1) low

pub double_high : (r s j : ℕ) → s < 2 → bit (2 * r + s) (suc j) ≡ bit r j
double_high r s j h =
    let half : (2 * r + s) / 2 ≡ r = omega arith in
    bit_high (2 * r + s) j ∙ ap (λ (x : ℕ). bit x j) half

-- the bits of a power of two
power_same : (k : ℕ) → bit (2 ^ k) k ≡ true
power_same zero = refl
power_same (suc k) =
    let e : 2 ^ suc k ≡ 2 * 2 ^ k + 0 = pow-suc 2 k ∙ mul_comm (2 ^ k) 2 ∙ omega arith in
    ap (λ (w : ℕ). bit w (suc k)) e ∙ double_high (2 ^ k) 0 k (zero-lt-suc 1) ∙ power_same k

power_other : (k j : ℕ) → j ≢ k → bit (2 ^ k) j ≡ false
power_other zero zero d = absurd (d refl)
power_other zero (suc j) d = double_high 0 1 j (omega arith) ∙ bit_none j
power_other (suc k) zero d =
    let e : 2 ^ suc k ≡ 2 * 2 ^ k + 0 = pow-suc 2 k ∙ mul_comm (2 ^ k) 2 ∙ omega arith in
    ap (λ (w : ℕ). bit w 0) e ∙ double_low (2 ^ k) 0 (zero-lt-suc 1)
power_other (suc k) (suc j) d =
    let e : 2 ^ suc k ≡ 2 * 2 ^ k + 0 = pow-suc 2 k ∙ mul_comm (2 ^ k) 2 ∙ omega arith in
    ap (λ (w : ℕ). bit w (suc j)) e ∙ double_high (2 ^ k) 0 j (zero-lt-suc 1) ∙ power_other k j (λ q. d (ap suc q))

differs : (a b : ℕ) → a < 2 → b < 2 → eqb (bit_xor a b) 1 ≡ cond (eqb b 1) (not (eqb a 1)) (eqb a 1)
differs zero zero ha hb = refl
differs zero (suc zero) ha hb = refl
differs (suc zero) zero ha hb = refl
differs (suc zero) (suc zero) ha hb = refl
differs zero (suc (suc b)) ha hb = absurd (omega arith)
differs (suc zero) (suc (suc b)) ha hb = absurd (omega arith)
differs (suc (suc a)) b ha hb = absurd (omega arith)

bit_xor_lem : (a b j : ℕ) → bit (bit_xor a b) j ≡ cond (bit b j) (not (bit a j)) (bit a j)
bit_xor_lem a b j =
    ap (λ (r : ℕ). eqb (r % 2) 1) (xor_shr a b j)
    ∙ ap (λ (r : ℕ). eqb r 1) (xor_mod (a / 2 ^ j) (b / 2 ^ j) 1)
    ∙ differs (a / 2 ^ j % 2) (b / 2 ^ j % 2) (omega arith) (omega arith)

-- a bit shifted to its place
pub shifted : (width k : ℕ) → k < width → 1 * 2 ^ k % 2 ^ width ≡ 2 ^ k
shifted width k h = shl_exact 1 k width (omega arith) (omega arith) ∙ one-mul (2 ^ k)

-- and one bit made the other one, in a word and in rows
toggled_here : (row k : ℕ) → bit (bit_xor row (2 ^ k)) k ≡ not (bit row k)
toggled_here row k = bit_xor_lem row (2 ^ k) k ∙ ap (λ (t : Bool). cond t (not (bit row k)) (bit row k)) (power_same k)

toggled_rest : (row k b : ℕ) → b ≢ k → bit (bit_xor row (2 ^ k)) b ≡ bit row b
toggled_rest row k b d = bit_xor_lem row (2 ^ k) b ∙ ap (λ (t : Bool). cond t (not (bit row b)) (bit row b)) (power_other k b d)

pub toggles : (rows : List ℕ) (i k : ℕ) → length rows ≡ 16 → i < 16 → Toggled i k rows (set rows i (bit_xor (get_or rows i 0) (2 ^ k)))
toggles rows i k size h = record {
  size = length-set rows i new ∙ size;
  here = ap (λ (r : ℕ). bit r k) same ∙ toggled_here (get_or rows i 0) k;
  rest = λ a b o. go a b (ℕ_discrete a i) o;
}
  where
    new : ℕ
    new = bit_xor (get_or rows i 0) (2 ^ k)

    same : get_or (set rows i new) i 0 ≡ new
    same = get_or-set_same rows i new 0 (omega (arith, size))

    go : (a b : ℕ) → Dec (a ≡ i) → (a ≢ i) ⊎ (b ≢ k) → marked (set rows i new) a b ≡ marked rows a b
    go a b (no d) o = ap (λ (r : ℕ). bit r b) (get_or-set_other rows i a new 0 d)
    go a b (yes e) (inl d) = absurd (d e)
    go a b (yes e) (inr d) = rw e (ap (λ (r : ℕ). bit r b) same ∙ toggled_rest (get_or rows i 0) k b d)

-- the row tells P of the positions from j on, up to n
pub record RowFrom (P : ℕ → Type 0) (n j row : ℕ) : Type 0 where
  pub within : j ≤ n
  pub fits : row < 2 ^ (n - j)
  pub tells : (b : ℕ) → j + b < n → Tells (P (j + b)) (bit row b)

pub flag_few : {P : Type 0} {s : ℕ} → Flags P s → s < 2
flag_few (on p e) = omega arith
flag_few (off d e) = omega arith

module _ {P : ℕ → Type 0} {n j row : ℕ} (r : RowFrom P n j row) (some : 0 < j) where
  pub row_more : {s : ℕ} → Flags (P (j - 1)) s → RowFrom P n (j - 1) (2 * row + s)
  row_more {s} f =
      let one : n - (j - 1) ≡ suc (n - j) = omega (arith, r.within) in
      record {
        within = omega (arith, r.within);
        fits = rw (one, pow-suc 2 (n - j)) (omega (arith, r.fits, flag_few f));
        tells = all;
      }
    where
      all : (b : ℕ) → j - 1 + b < n → Tells (P (j - 1 + b)) (bit (2 * row + s) b)
      all zero l =
          let e : j - 1 ≡ j - 1 + 0 = omega arith in
          subst (λ (x : ℕ). Tells (P x) (bit (2 * row + s) 0)) e (rw (double_low row s (flag_few f)) (flags_tell f))
      all (suc b) l =
          let e : j + b ≡ j - 1 + suc b = omega arith in
          subst (λ (x : ℕ). Tells (P x) (bit (2 * row + s) (suc b))) e (rw (double_high row s b (flag_few f)) (r.tells b (omega arith)))

pub row_end : {P : ℕ → Type 0} {n j row : ℕ} → n ≤ 16 → j ≤ 0 → RowFrom P n j row → Row n P row
row_end {P} {n} {j} {row} few zero_j r = record {
  fits = let h : n - j ≤ 16 = omega arith in omega (arith, r.fits, pow-le-pow_right {n = 2} (zero-lt-suc 1) h);
  tells = λ b l. let e : j + b ≡ b = omega arith in subst (λ (x : ℕ). Tells (P x) (bit row b)) e (r.tells b (omega arith));
}

-- a word below a power of two has no bit from there on
small_inside : (n w : ℕ) → w < 2 ^ n → Inside n w
small_inside n w h q e = go (le_or_lt n q)
  where
    go : (n ≤ q) ⊎ (q < n) → q < n
    go (inr l) = l
    go (inl l) =
        let none : w < 2 ^ q = omega (arith, h, pow-le-pow_right {n = 2} (zero-lt-suc 1) l) in
        absurd (true≢false (sym e ∙ ap (λ (x : ℕ). eqb (x % 2) 1) (div-eq_of_lt none)))

pub positions_end : {P : ℕ → Type 0} {n j word : ℕ} → n ≤ 16 → j ≤ 0 → RowFrom P n j word → Positions n P word
positions_end {P} {n} {j} {word} few zero_j r = record {
  inside = small_inside n word (let e : n - j ≡ n = omega arith in subst (λ (x : ℕ). word < 2 ^ x) e r.fits);
  tells = (row_end few zero_j r).tells;
}

-- rows lead into a word from where their row shares a position with it
pub shared_into : {n : ℕ} {rows : List ℕ} {word p s : ℕ} → Inside n word → p < n → Flags (Shared (get_or rows p 0) word) s → Flags (Into n rows word p) s
shared_into inside l (on s e) = on (record { to = s.at; leads = record { from = l; to = inside s.at s.right; is = s.left }; is = s.right }) e
shared_into inside l (off d e) = off (λ s. d (record { at = s.to; left = s.leads.is; right = s.is })) e

-- the word of one position
pub only_one : {j word : ℕ} → j < 16 → word ≡ 2 ^ j → Positions 16 (λ p. p ≡ j) word
only_one {j} {word} l e = record {
  inside = λ q b. let f : q ≡ j = at q (ℕ_discrete q j) b in omega arith;
  tells = λ p h. tells_by (bit word p) (at p (ℕ_discrete p j)) (λ b f. true≢false (sym (rw (e, f) (power_same j)) ∙ b));
}
  where
    at : (q : ℕ) → Dec (q ≡ j) → bit word q ≡ true → q ≡ j
    at q (yes f) b = f
    at q (no d) b = absurd (true≢false (sym b ∙ rw e (power_other j q d)))
