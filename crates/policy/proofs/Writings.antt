-- Deciding marks one by one: a range of numbers, and the replacements of a choice. Assumes nothing.
use Prim.Native.Nat.{ℕ, zero, suc, ◌+◌, ◌-◌, ◌/◌, ◌^◌, ◌≤◌, ◌<◌}
use mathlib.Core.Path.{◌≡◌, refl, sym, ◌∙◌}
use mathlib.Core.Logic.{◌≢◌, ◌⊎◌, inl, inr}
use mathlib.Core.Bool.{Bool, true, false, true≢false}
use mathlib.Core.List.{List}
use native.Mathlib.Decide.{ℕ_discrete}
use native.Mathlib.Omega.{arith}
use lib.Dec.{eqb}
use lib.ListN.{length, get_or, set, length-set}
use lib.Seq.{get_or-set_same, get_or-set_other}
use Rattle.table.specs.Steps.Found.{Tells}
use Rattle.table.specs.Steps.Numbering.{Small, replace_in, width_in, row_in, missing_in, ReplaceableIn}
use Rattle.table.specs.declared.privilege.Numbering.{Numbering}
use Rattle.table.proofs.Lists.{le_or_lt}
use Rattle.table.proofs.Lowest.{tells_eq}
use Rattle.table.proofs.Privileges.{row_before, row_behind, replaceable_missing, replace_in_one}
use Rattle.policy.specs.Steps.Squares.{bit, marked}
use Rattle.policy.specs.Steps.Packed.{Closed}
use Rattle.policy.proofs.Bits.{bit_from}
use Rattle.policy.proofs.RowMarks.{row_kind}
use Rattle.policy.specs.Steps.Writing.{Decision, allow, forbid, decision, RowWritten, RangeWritten}

-- what a flag tells, decided
decide : {P : Type 0} (r : Bool) → Tells P r → Decision P (decision r)
decide true p = allow p refl
decide false d = forbid d refl

pub decision_as : {P Q : Type 0} {m : ℕ} → (P → Q) → (Q → P) → Decision P m → Decision Q m
decision_as f g (allow p e) = allow (f p) e
decision_as f g (forbid d e) = forbid (λ q. d (g q)) e

-- a flag itself, and a mark held against 1
pub decide_flag : (r : Bool) → Decision (r ≡ true) (decision r)
decide_flag true = allow refl refl
decide_flag false = forbid (λ e. true≢false (sym e)) refl

pub decide_mark : {all : Bool} (m : ℕ) → all ≡ false → Decision ((all ≡ true) ⊎ (m ≡ 1)) (decision (eqb m 1))
decide_mark m off = decision_as inr (λ q. elim q [ inl on ↦ absurd (true≢false (sym on ∙ off)) | inr e ↦ e ]) (decide (eqb m 1) (tells_eq m 1))

-- a range, written from its lower end
module _ {P : ℕ → Type 0} {from : ℕ} where
  pub range_start : {old : List ℕ} → RangeWritten P from from old old
  range_start = record { size = refl; within = λ q l h. absurd (omega arith); rest = λ q l. refl }

  pub range_more : {p v : ℕ} {old new : List ℕ} → RangeWritten P from p old new → from ≤ p → p < length new → Decision (P p) v
      → RangeWritten P from (p + 1) old (set new p v)
  range_more {p} {v} {old} {new} s l h d = record {
    size = length-set new p v ∙ s.size;
    within = λ q f u. go q f u (ℕ_discrete q p);
    rest = λ q o. get_or-set_other new p q v 0 (apart q o) ∙ s.rest q (elim o [ inl k ↦ inl k | inr k ↦ inr (omega arith) ]);
  }
    where
      apart : (q : ℕ) → (q < from) ⊎ (p + 1 ≤ q) → q ≢ p
      apart q (inl k) = λ e. omega arith
      apart q (inr k) = λ e. omega arith

      go : (q : ℕ) → from ≤ q → q < p + 1 → Dec (q ≡ p) → Decision (P q) (get_or (set new p v) q 0)
      go q f u (yes e) = rw (e, get_or-set_same new p v 0 h) d
      go q f u (no n) = rw (get_or-set_other new p q v 0 n) (s.within q f (omega arith))

  -- the whole range, or nothing where it ends before it begins
  pub range_end : {until p : ℕ} {old new : List ℕ} → RangeWritten P from p old new → (from ≤ until → p ≤ until) → (until < from → p ≡ from) → until ≤ p
      → RangeWritten P from until old new
  range_end {until} {p} {old} {new} s f g l = go (le_or_lt from until)
    where
      none : p ≡ from → (q : ℕ) → (q < from) ⊎ (p ≤ q)
      none e q = elim (le_or_lt from q) [ inl k ↦ inr (omega arith) | inr k ↦ inl k ]

      go : (from ≤ until) ⊎ (until < from) → RangeWritten P from until old new
      go (inl k) = let e : p ≡ until = omega (arith, f k) in rw e at s
      go (inr k) = record { size = s.size; within = λ q a b. absurd (omega arith); rest = λ q o. s.rest q (none (g k) q) }

-- the bits of a word, written from a place on
abbrev pub BitsWritten : ℕ → ℕ → ℕ → List ℕ → List ℕ → Type 0
BitsWritten bits from k old new = RangeWritten (λ p. bit bits (p - from) ≡ true) from (from + k) old new

pub bits_start : (bits from : ℕ) {old : List ℕ} → BitsWritten bits from 0 old old
bits_start bits from = let e : from + 0 ≡ from = omega arith in rw e (range_start {P = λ p. bit bits (p - from) ≡ true})

pub bits_more : (bits from k : ℕ) {old new : List ℕ} → BitsWritten bits from k old new → from + k < length new → BitsWritten bits from (k + 1) old (set new (from + k) (decision (bit bits k)))
bits_more bits from k s h =
    let e : from + (k + 1) ≡ from + k + 1 = omega arith in
    let gone : from + k - from ≡ k = omega arith in
    rw e (range_more s (omega arith) h (rw gone (decide_flag (bit bits k))))

-- a range by another reading of its marks
pub range_as : {P Q : ℕ → Type 0} {from until : ℕ} {old new : List ℕ} → ((p : ℕ) → from ≤ p → (P p → Q p) × (Q p → P p)) → RangeWritten P from until old new → RangeWritten Q from until old new
range_as f s = record { size = s.size; within = λ p l h. decision_as (f p l).0 (f p l).1 (s.within p l h); rest = s.rest }

-- two ranges that meet or overlap
pub range_join : {P : ℕ → Type 0} {a b c d : ℕ} {old new newer : List ℕ} → RangeWritten P a b old new → RangeWritten P c d new newer → a ≤ c → c ≤ b → b ≤ d → RangeWritten P a d old newer
range_join {P} {a} {b} {c} {d} {old} {new} {newer} s t ac cb bd = record {
  size = t.size ∙ s.size;
  within = λ p l h. go p l h (le_or_lt c p);
  rest = λ p o. t.rest p (elim o [ inl k ↦ inl (omega arith) | inr k ↦ inr k ]) ∙ s.rest p (elim o [ inl k ↦ inl k | inr k ↦ inr (omega arith) ]);
}
  where
    go : (p : ℕ) → a ≤ p → p < d → (c ≤ p) ⊎ (p < c) → Decision (P p) (get_or newer p 0)
    go p l h (inl k) = t.within p k h
    go p l h (inr k) = rw (t.rest p (inl k)) (s.within p l (omega arith))

-- a row of the square, written with its gap closed
pub range_row : {n : Numbering} {square : List ℕ} {i from bits : ℕ} {old new : List ℕ} → Small n → i < n.count → from ≡ row_in n i → Closed (missing_in n i) (get_or square i 0) bits
    → BitsWritten bits from (width_in n) old new → RowWritten n square i old new
range_row {n} {square} {i} {from} {bits} {old} {new} small h start closed wrote = record { size = s.size; row = λ j r. by j r (le_or_lt (missing_in n i) j); rest = λ p f. s.rest p (out p f (le_or_lt (row_in n i) p)) }
  where
    s : BitsWritten bits (row_in n i) (width_in n) old new
    s = rw start at wrote

    placed : (j k : ℕ) → replace_in n i j ≡ row_in n i + k → k < width_in n → bit bits k ≡ marked square i j → Decision (marked square i j ≡ true) (get_or new (replace_in n i j) 0)
    placed j k e l b =
        let gone : row_in n i + k - row_in n i ≡ k = omega arith in
        rw e (rw (gone, b) at (s.within (row_in n i + k) (omega arith) (omega arith)))

    by : (j : ℕ) → ReplaceableIn n i j → (missing_in n i ≤ j) ⊎ (j < missing_in n i) → Decision (marked square i j ≡ true) (get_or new (replace_in n i j) 0)
    by j r (inr l) = placed j j (row_before n i j small.narrow l) (omega (arith, small.narrow, r.to)) (closed.before j l)
    by zero r (inl l) = absurd (replaceable_missing small r (omega arith))
    by (suc j) r (inl l) =
        let g : missing_in n i ≤ j = omega (arith, replaceable_missing small r) in
        placed (suc j) j (row_behind n i j small g r.to) (omega (arith, small.narrow, r.to)) (closed.behind j g)

    out : (p : ℕ) → ((j : ℕ) → ReplaceableIn n i j → p ≢ replace_in n i j) → (row_in n i ≤ p) ⊎ (p < row_in n i) → (p < row_in n i) ⊎ (row_in n i + width_in n ≤ p)
    out p f (inr l) = inl l
    out p f (inl l) = elim (le_or_lt (row_in n i + width_in n) p) [
      | inl k ↦ inr k
      | inr k ↦ let kind = row_kind n i (p - row_in n i) small h (omega arith) in absurd (f kind.0 kind.1 (omega (arith, kind.2)))
    ]

-- the first eight and the last eight of a row that has eight or more
pub row_eights : {n : Numbering} {square : List ℕ} {i from bits : ℕ} {old new newer : List ℕ} → Small n → i < n.count → 8 ≤ width_in n → from ≡ row_in n i → Closed (missing_in n i) (get_or square i 0) bits →
    BitsWritten bits from 8 old new → BitsWritten (bits / 2 ^ (width_in n - 8)) (from + (width_in n - 8)) 8 new newer → RowWritten n square i old newer
row_eights {n} {square} {i} {from} {bits} {old} {new} {newer} small h some e closed s t = range_row small h e closed (rw whole at both)
  where
    m : ℕ
    m = width_in n - 8

    reads : (p : ℕ) → from + m ≤ p → bit (bits / 2 ^ m) (p - (from + m)) ≡ bit bits (p - from)
    reads p l = bit_from m bits (p - (from + m)) (p - from) (omega arith)

    both : RangeWritten (λ p. bit bits (p - from) ≡ true) from (from + m + 8) old newer
    both = range_join s (range_as (λ p l. (λ q. sym (reads p l) ∙ q, λ q. reads p l ∙ q)) t) (omega arith) (omega arith) (omega arith)

    whole : from + m + 8 ≡ from + width_in n
    whole = omega (arith, small.few)

-- the replacements of the rows before i are decided by the square, and the rest is as it was
pub record RowsWritten (n : Numbering) (square : List ℕ) (i : ℕ) (old new : List ℕ) : Type 0 where
  pub size : length new ≡ length old
  pub done : (a b : ℕ) → a < i → ReplaceableIn n a b → Decision (marked square a b ≡ true) (get_or new (replace_in n a b) 0)
  pub rest : (p : ℕ) → ((a b : ℕ) → a < i → ReplaceableIn n a b → p ≢ replace_in n a b) → get_or new p 0 ≡ get_or old p 0

module _ {n : Numbering} {square : List ℕ} where
  pub rows_more : n.gap ≤ 1 → {i : ℕ} {old new newer : List ℕ} → RowsWritten n square i old new → RowWritten n square i new newer → RowsWritten n square (i + 1) old newer
  rows_more narrow {i} {old} {new} {newer} s r = record {
    size = r.size ∙ s.size;
    done = λ a b l o. go a b l o (ℕ_discrete a i);
    rest = λ p f. r.rest p (λ b. f i b (omega arith)) ∙ s.rest p (λ a b l. f a b (omega arith));
  }
    where
      go : (a b : ℕ) → a < i + 1 → ReplaceableIn n a b → Dec (a ≡ i) → Decision (marked square a b ≡ true) (get_or newer (replace_in n a b) 0)
      go a b l o (yes e) = rw e (r.row b (rw e at o))
      go a b l o (no d) = rw (r.rest (replace_in n a b) (λ c u q. d (replace_in_one n a b i c narrow o u q).0)) (s.done a b (omega arith) o)
