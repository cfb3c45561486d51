-- Numbers below a thousand in decimal: their digits tell them apart. Assumes nothing.
use Rattle.std.proofs.Common.{ℕ, zero, suc, ◌+◌, ◌-◌, ◌*◌, ◌/◌, ◌%◌, ◌≤◌, ◌<◌, ◌≡◌, sym, ap, ◌∙◌, ◌⊎◌, inl, inr, List, [], ◌∷◌, arith, length, get_or, lt-ltb, le-ltb}
use Rattle.table.proofs.Lists.{le_or_lt}
use Rattle.labels.specs.Labels.{digit, decimal}
use Rattle.labels.specs.Steps.Booked.{Plain}

pub decimal_ones : (n : ℕ) → n < 10 → decimal n ≡ digit n ∷ []
unfolding decimal
decimal_ones n h = rw (lt-ltb n 10 h)

pub decimal_tens : (n : ℕ) → 10 ≤ n → n < 100 → decimal n ≡ digit (n / 10) ∷ digit (n % 10) ∷ []
unfolding decimal
decimal_tens n l h = rw (le-ltb n 10 l, lt-ltb n 100 h)

pub decimal_hundreds : (n : ℕ) → 100 ≤ n → decimal n ≡ digit (n / 100) ∷ digit (n / 10 % 10) ∷ digit (n % 10) ∷ []
unfolding decimal
decimal_hundreds n l = rw (le-ltb n 10 (omega arith), le-ltb n 100 l)

-- the number that digits are, behind those that make k
abbrev value_from : ℕ → List ℕ → ℕ
value_from k [] = k
value_from k (c ∷ cs) = value_from (10 * k + (c - 48)) cs

value_decimal : (n : ℕ) → n < 1000 → value_from 0 (decimal n) ≡ n
value_decimal n h = go (le_or_lt 10 n) (le_or_lt 100 n)
  where
    go : (10 ≤ n) ⊎ (n < 10) → (100 ≤ n) ⊎ (n < 100) → value_from 0 (decimal n) ≡ n
    go (inr a) b = rw (decimal_ones n a) (omega arith)
    go (inl a) (inr b) = rw (decimal_tens n a b) (omega arith)
    go (inl a) (inl b) = rw (decimal_hundreds n b) (omega arith)

pub decimal_one : (n m : ℕ) → n < 1000 → m < 1000 → decimal n ≡ decimal m → n ≡ m
decimal_one n m h k e = sym (value_decimal n h) ∙ ap (value_from 0) e ∙ value_decimal m k

-- digits, three at most
record Digits (cs : List ℕ) : Type 0 where
  few : length cs ≤ 3
  each : (k : ℕ) → k < length cs → (48 ≤ get_or cs k 0) × (get_or cs k 0 ≤ 57)

digits_none : (k : ℕ) → k < 0 → (48 ≤ get_or {A = ℕ} [] k 0) × (get_or {A = ℕ} [] k 0 ≤ 57)
digits_none k h = absurd (omega arith)

digits_more : (c : ℕ) (cs : List ℕ) → 48 ≤ c → c ≤ 57 → length cs ≤ 2 → ((k : ℕ) → k < length cs → (48 ≤ get_or cs k 0) × (get_or cs k 0 ≤ 57))
    → Digits (c ∷ cs)
digits_more c cs low high few each = record { few = omega arith; each = go }
  where
    go : (k : ℕ) → k < length (c ∷ cs) → (48 ≤ get_or (c ∷ cs) k 0) × (get_or (c ∷ cs) k 0 ≤ 57)
    go zero h = (low, high)
    go (suc k) h = each k (omega arith)

digits_decimal : (n : ℕ) → n < 1000 → Digits (decimal n)
digits_decimal n h = go (le_or_lt 10 n) (le_or_lt 100 n)
  where
    one : (d : ℕ) → d < 10 → Digits (digit d ∷ [])
    one d l = digits_more (digit d) [] (omega arith) (omega arith) (omega arith) digits_none

    two : (d f : ℕ) → d < 10 → f < 10 → Digits (digit d ∷ digit f ∷ [])
    two d f l m = digits_more (digit d) (digit f ∷ []) (omega arith) (omega arith) (omega arith) (one f m).each

    go : (10 ≤ n) ⊎ (n < 10) → (100 ≤ n) ⊎ (n < 100) → Digits (decimal n)
    go (inr a) b = rw (decimal_ones n a) (one n a)
    go (inl a) (inr b) = rw (decimal_tens n a b) (two (n / 10) (n % 10) (omega arith) (omega arith))
    go (inl a) (inl b) =
        rw (decimal_hundreds n b)
        (digits_more (digit (n / 100)) (digit (n / 10 % 10) ∷ digit (n % 10) ∷ []) (omega arith) (omega arith) (omega arith)
        (two (n / 10 % 10) (n % 10) (omega arith) (omega arith)).each)

pub decimal_short : (n : ℕ) → n < 1000 → length (decimal n) ≤ 3
decimal_short n h = (digits_decimal n h).few

pub decimal_plain : (n : ℕ) → n < 1000 → Plain (decimal n)
decimal_plain n h = let d = digits_decimal n h in record {
  blank = λ k l e. omega (arith, (d.each k l).0);
  newline = λ k l e. omega (arith, (d.each k l).0);
}
