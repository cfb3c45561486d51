-- Bytes that pick of eight privileges: joined bit by bit, none picked, and how many. Assumes nothing.
use Prim.Native.Nat.{ℕ, zero, suc, ◌+◌, ◌-◌, ◌/◌, ◌%◌, ◌^◌, ◌<◌}
use mathlib.Core.Path.{◌≡◌, refl, sym, ap, ◌∙◌}
use mathlib.Core.Logic.{◌≢◌, ◌⊎◌, inl, inr}
use native.Mathlib.Nat.{pow-suc, div-one, zero-div}
use native.Mathlib.Omega.{arith}
use lib.Bits.{bit_and, bit_or, bit_xor, and_shr, and_mod, and_le_l, or_shr, or_mod, or_lt, xor_shr, xor_mod, xor_lt}
use lib.Count.{ones, ones_step, ones-le}
use lib.Dec.{eqb}
use lib.Pow.{shr-shr}
use Rattle.table.specs.HowMany.{HowMany}
use Rattle.table.specs.Steps.Found.{Tells}
use Rattle.table.proofs.HowMany.{many_next, many_skip}
use Rattle.table.proofs.Lowest.{tells_eq_as}
use Rattle.policy.specs.Steps.Squares.{Flags, on, off}
use Rattle.pairs.specs.Steps.Changing.{bit_in, ChangedIn, OtherIn, Picked}
use Rattle.pairs.proofs.Bytes.{byte_of_lem, byte_same}

-- a bit flags that it is set
flag : (x : ℕ) → x < 2 → Flags (x ≡ 1) x
flag zero l = off (λ e. omega arith) refl
flag (suc zero) l = on refl refl
flag (suc (suc x)) l = absurd (omega arith)

own : (x j : ℕ) → Flags (bit_in x j ≡ 1) (bit_in x j)
own x j = flag (bit_in x j) (omega arith)

-- flags joined, as bits are
either : {P Q : Type 0} {x y : ℕ} → Flags P x → Flags Q y → Flags (P ⊎ Q) (bit_or x y)
either (on p e) (on q f) = on (inl p) (rw (e, f) refl)
either (on p e) (off k f) = on (inl p) (rw (e, f) refl)
either (off d e) (on q f) = on (inr q) (rw (e, f) refl)
either (off d e) (off k f) = off (λ s. elim s [ inl p ↦ d p | inr q ↦ k q ]) (rw (e, f) refl)

both : {P Q : Type 0} {x y : ℕ} → Flags P x → Flags Q y → Flags (P × Q) (bit_and x y)
both (on p e) (on q f) = on (p, q) (rw (e, f) refl)
both (on p e) (off k f) = off (λ s. k s.1) (rw (e, f) refl)
both (off d e) q = off (λ s. d s.0) (rw e refl)

differ : {x y : ℕ} → Flags (x ≡ 1) x → Flags (y ≡ 1) y → Flags (x ≢ y) (bit_xor x y)
differ (on p e) (on q f) = off (λ d. d (e ∙ sym f)) (rw (e, f) refl)
differ (on p e) (off k f) = on (λ s. k (sym s ∙ e)) (rw (e, f) refl)
differ (off d e) (on q f) = on (λ s. d (s ∙ f)) (rw (e, f) refl)
differ (off d e) (off k f) = off (λ s. s (e ∙ sym f)) (rw (e, f) refl)

fails : {P : Type 0} {x : ℕ} → Flags P x → Flags (¬ P) (1 - x)
fails (on p e) = off (λ d. d p) (omega arith)
fails (off d e) = on d (omega arith)

-- the bits of joined bytes
or_bit : (x y j : ℕ) → bit_in (bit_or x y) j ≡ bit_or (bit_in x j) (bit_in y j)
or_bit x y j = ap (λ (r : ℕ). r % 2) (or_shr x y j) ∙ or_mod (x / 2 ^ j) (y / 2 ^ j) 1

and_bit : (x y j : ℕ) → bit_in (bit_and x y) j ≡ bit_and (bit_in x j) (bit_in y j)
and_bit x y j = ap (λ (r : ℕ). r % 2) (and_shr x y j) ∙ and_mod (x / 2 ^ j) (y / 2 ^ j) 1

xor_bit : (x y j : ℕ) → bit_in (bit_xor x y) j ≡ bit_xor (bit_in x j) (bit_in y j)
xor_bit x y j = ap (λ (r : ℕ). r % 2) (xor_shr x y j) ∙ xor_mod (x / 2 ^ j) (y / 2 ^ j) 1

bit_low : (x : ℕ) → bit_in x 0 ≡ x % 2
bit_low x = ap (λ (r : ℕ). r % 2) (div-one x)

bit_high : (x j : ℕ) → bit_in x (suc j) ≡ bit_in (x / 2) j
bit_high x j = ap (λ (k : ℕ). x / 2 ^ k % 2) (omega arith) ∙ ap (λ (r : ℕ). r % 2) (sym (shr-shr x 1 j))

not_bit : (n x j : ℕ) → x < 2 ^ n → j < n → bit_in (2 ^ n - 1 - x) j ≡ 1 - bit_in x j
not_bit zero x j l h = absurd (omega arith)
not_bit (suc n) x zero l h =
    let e : (2 ^ suc n - 1 - x) % 2 ≡ 1 - x % 2 = omega (arith, pow-suc 2 n, l) in
    bit_low (2 ^ suc n - 1 - x) ∙ e ∙ ap (λ (r : ℕ). 1 - r) (sym (bit_low x))
not_bit (suc n) x (suc j) l h =
    let half : (2 ^ suc n - 1 - x) / 2 ≡ 2 ^ n - 1 - x / 2 = omega (arith, pow-suc 2 n, l) in
    bit_high (2 ^ suc n - 1 - x) j
    ∙ ap (λ (r : ℕ). bit_in r j) half
    ∙ not_bit n (x / 2) j (omega (arith, pow-suc 2 n, l)) (omega arith)
    ∙ ap (λ (r : ℕ). 1 - r) (sym (bit_high x j))

-- which of eight privileges changed, and which otherwise than from allowed to forbidden
module _ (a f b g : ℕ) where
  pub changed_picked : a < 256 → f < 256 → b < 256 → g < 256 → Picked (ChangedIn a f b g) (bit_or (bit_xor a b) (bit_xor f g))
  changed_picked la lf lb lg = record {
    fits = or_lt 8 (bit_xor a b) (bit_xor f g) (xor_lt 8 a b la lb) (xor_lt 8 f g lf lg);
    tells = λ j l. rw (or_bit (bit_xor a b) (bit_xor f g) j, xor_bit a b j, xor_bit f g j) (either (differ (own a j) (own b j)) (differ (own f j) (own g j)));
  }

  pub other_picked : {r : ℕ} → a < 256 → Picked (ChangedIn a f b g) r → Picked (OtherIn a f b g) (bit_and r (255 - bit_and a g))
  other_picked {r} l c = record {
    fits = omega (arith, and_le_l r (255 - bit_and a g), c.fits);
    tells = λ j h.
        let small : bit_and a g < 2 ^ 8 = omega (arith, and_le_l a g, l) in
        rw (and_bit r (255 - bit_and a g) j, not_bit 8 (bit_and a g) j small h, and_bit a g j) (both (c.tells j h) (fails (both (own a j) (own g j))));
  }

-- no privilege is picked, or the one at bit j
module _ {P : ℕ → Type 0} {r : ℕ} (c : Picked P r) where
  off_none : {Q : Type 0} {x : ℕ} → Flags Q x → x ≡ 0 → ¬ Q
  off_none (on q e) z = absurd (omega arith)
  off_none (off d e) z = d

  none_off : {Q : Type 0} {x : ℕ} → Flags Q x → ¬ Q → x ≡ 0
  none_off (on q e) d = absurd (d q)
  none_off (off d e) k = e

  pub picked_none : Tells ((j : ℕ) → j < 8 → ¬ P j) (eqb r 0)
  picked_none = tells_eq_as ((j : ℕ) → j < 8 → ¬ P j) r 0
      (λ e j l. off_none (c.tells j l) (rw e (ap (λ (x : ℕ). x % 2) (zero-div (2 ^ j)))))
      (λ d. sym (byte_of_lem r c.fits) ∙ byte_same (bit_in r) (λ j. 0) (λ j l. none_off (c.tells j l) (d j l)) ∙ refl)

moved : {P : ℕ → Type 0} {a b c d : ℕ} → a ≡ b → c ≡ d → HowMany P a c → HowMany P b d
moved e f h = rw (← e, ← f) h

-- of n numbers from a on, those whose bit is set are counted
pub many_bits : {P : ℕ → Type 0} (n a c r : ℕ) → HowMany P a c → r < 2 ^ n → ((j : ℕ) → j < n → Flags (P (a + j)) (bit_in r j)) → HowMany P (a + n) (c + ones r)
many_bits zero a c r h l t = moved (omega arith) (omega (arith, ones-le 0 r l)) h
many_bits {P} (suc n) a c r h l t = elim low [
  | on p e ↦ moved (omega arith) (omega (arith, ones_step r)) (many_bits n (a + 1) (c + 1) (r / 2) (many_next h p) small rest)
  | off d e ↦ moved (omega arith) (omega (arith, ones_step r)) (many_bits n (a + 1) c (r / 2) (many_skip h d) small rest)
]
  where
    small : r / 2 < 2 ^ n
    small = omega (arith, pow-suc 2 n, l)

    low : Flags (P a) (r % 2)
    low = let e : a + 0 ≡ a = omega arith in rw (bit_low r, e) at (t 0 (omega arith))

    rest : (j : ℕ) → j < n → Flags (P (a + 1 + j)) (bit_in (r / 2) j)
    rest j k = let e : a + suc j ≡ a + 1 + j = omega arith in rw (bit_high r j, e) at (t (suc j) (omega arith))
