-- The row of a child of a choice by its own marks, which stand side by side: of each place there is one replacement, and with the gap opened the row
-- tells of each position. Assumes nothing.
use Prim.Native.Nat.{ℕ, zero, suc, ◌+◌, ◌-◌, ◌*◌, ◌/◌, ◌≤◌, ◌<◌}
use mathlib.Core.Path.{◌≡◌, refl, sym, ap, ◌∙◌}
use mathlib.Core.List.{List}
use mathlib.Core.Logic.{◌≢◌, ◌⊎◌, inl, inr}
use native.Mathlib.Numerals.{add-one}
use native.Mathlib.Omega.{arith}
use lib.ListN.{length, get_or}
use Rattle.table.specs.Steps.Found.{Tells}
use Rattle.table.specs.Steps.Numbering.{Small, replace_in, width_in, row_in, missing_in, ReplaceableIn}
use Rattle.table.specs.declared.privilege.Numbering.{Numbering}
use Rattle.table.proofs.Lists.{le_or_lt}
use Rattle.table.proofs.Lowest.{tells_as}
use Rattle.table.proofs.Privileges.{row_before, row_behind, replaceable_missing, missing_replaceable}
use Rattle.policy.specs.Steps.Squares.{bit, AskedAt, MarkedIn, Flags, Room, Row}
use Rattle.policy.specs.Steps.Packed.{place_of, Eight, Sixteen, Flagged, Opened}
use Rattle.policy.proofs.Bits.{bit_high, beside_low, RowFrom, row_more, row_end}

-- the replacements of a child stand side by side: each place of its row is that of one
pub row_kind : (n : Numbering) (i k : ℕ) → Small n → i < n.count → k < width_in n → (j : ℕ) × ReplaceableIn n i j × (replace_in n i j ≡ row_in n i + k)
row_kind n i k small h l = elim (le_or_lt (missing_in n i) k) [
  | inl g ↦ let to : suc k < n.count = omega (arith, small.few, small.narrow) in
      (suc k, missing_replaceable small h to (λ q. omega arith), row_behind n i k small g to)
  | inr g ↦ (k, missing_replaceable small h (omega arith) (λ q. omega arith), row_before n i k small.narrow g)
]

-- the row has room, if it has a place
pub row_room : {n : Numbering} {i at own : ℕ} {marks : List ℕ} → Room n marks → i < n.count → at ≡ row_in n i → own ≡ width_in n
    → (own ≤ 16) × (0 < own → at + own ≤ length marks)
row_room {n} {i} r h start wide =
    (omega (arith, wide, r.small.few), λ some. let last = row_kind n i (width_in n - 1) r.small h (omega arith) in omega (arith, start, wide, last.2, r.room i last.0 last.1))

-- row i of a choice by its own marks, side by side, with the gap opened
pub own_row_lem : {mark : ℕ} {marks : List ℕ} {n : Numbering} {i at bits row : ℕ} → Small n → i < n.count → at ≡ row_in n i →
    ((k : ℕ) → k < width_in n → Tells (AskedAt marks at mark k) (bit bits k)) → Opened (width_in n) (missing_in n i) bits row
    → Row n.count (MarkedIn mark marks n i) row
own_row_lem {mark} {marks} {n} {i} {at} {bits} {row} small from start tells o = record { fits = o.fits; tells = λ j h. told j h (le_or_lt (missing_in n i) j) }
  where
    -- the mark at k is that of the replacement by the kind at j
    placed : (j k : ℕ) → j < n.count → j ≢ missing_in n i → replace_in n i j ≡ row_in n i + k → k < width_in n → Tells (MarkedIn mark marks n i j) (bit bits k)
    placed j k to other e l =
        let same : get_or marks (replace_in n i j) 0 ≡ get_or marks (at + k) 0 = ap (λ (p : ℕ). get_or marks p 0) (e ∙ ap (λ (p : ℕ). p + k) (sym start)) in
        tells_as (λ h. record { can = missing_replaceable small from to other; is = same ∙ h }) (λ m. sym same ∙ m.is) (bit bits k) (tells k l)

    behind : (j : ℕ) → j < n.count → missing_in n i < j → Tells (MarkedIn mark marks n i j) (bit row j)
    behind zero h l = absurd (omega arith)
    behind (suc j) h l =
        let within : j < width_in n = omega (arith, small.narrow) in
        rw (o.behind j (omega arith) within) (placed (suc j) j h (λ e. omega arith) (row_behind n i j small (omega arith) h) within)

    here : (j : ℕ) → j ≡ missing_in n i → Tells (MarkedIn mark marks n i j) (bit row j)
    here j e = rw (e, o.here) (λ m. replaceable_missing small m.can refl)

    told : (j : ℕ) → j < n.count → (missing_in n i ≤ j) ⊎ (j < missing_in n i) → Tells (MarkedIn mark marks n i j) (bit row j)
    told j h (inr l) =
        let within : j < width_in n = omega (arith, small.narrow, from) in
        rw (o.before j l within) (placed j j h (λ e. omega arith) (row_before n i j small.narrow l) within)
    told j h (inl l) = elim (le_or_lt j (missing_in n i)) [ inl g ↦ here j (omega arith) | inr g ↦ behind j h g ]

-- a word tells which of eight marks are the one asked for
pub record EightTell (mark : ℕ) (marks : List ℕ) (at word : ℕ) : Type 0 where
  pub tells : (k : ℕ) → k < 8 → Tells (AskedAt marks at mark k) (bit word (place_of k))

pub ones_tell : {marks : List ℕ} {at r : ℕ} → Eight marks at r → EightTell 1 marks at r
ones_tell e = record { tells = e.ones }

pub twos_tell : {marks : List ℕ} {at r : ℕ} → Eight marks at r → EightTell 2 marks at (r / 2)
twos_tell {marks} {at} {r} e = record { tells = λ k l. rw (← bit_high r (place_of k), ← add-one (place_of k)) (e.twos k l) }

-- sixteen marks, by two such words
pub sixteen_tell : {mark : ℕ} {marks : List ℕ} {at first second bits : ℕ} → EightTell mark marks at first → EightTell mark marks (at + 8) second → Sixteen first second bits
    → (k : ℕ) → k < 16 → Tells (AskedAt marks at mark k) (bit bits k)
sixteen_tell {mark} {marks} {at} {bits = bits} firsts seconds both k l = elim (le_or_lt 8 k) [
  | inl g ↦ let e : 8 + (k - 8) ≡ k = omega arith in
      let f : at + 8 + (k - 8) ≡ at + k = omega arith in
      rw (f, ← both.high (k - 8) (omega arith), e) at (seconds.tells (k - 8) (omega arith))
  | inr g ↦ rw (both.low k g) (firsts.tells k g)
]

-- and by the sixteen marks from its first on
pub marked_row : {mark : ℕ} {marks : List ℕ} {n : Numbering} {i at first second bits row : ℕ} → Small n → i < n.count → at ≡ row_in n i →
    EightTell mark marks at first → EightTell mark marks (at + 8) second → Sixteen first second bits → Opened (width_in n) (missing_in n i) bits row
    → Row n.count (MarkedIn mark marks n i) row
marked_row small from start firsts seconds both o = own_row_lem small from start (λ k l. sixteen_tell firsts seconds both k (omega (arith, small.few))) o

-- the marks from k on, one by one: those that are 1 in the lower sixteen bits, those that are 2 in the upper ones
pub record FlagsFrom (marks : List ℕ) (at size k flags : ℕ) : Type 0 where
  pub steps : ℕ
  pub bans : ℕ
  pub is : flags ≡ bans * 65536 + steps
  pub ones : RowFrom (AskedAt marks at 1) size k steps
  pub twos : RowFrom (AskedAt marks at 2) size k bans

module _ {marks : List ℕ} {at size k flags : ℕ} (f : FlagsFrom marks at size k flags) where
  pub flags_more : 0 < k → {s b : ℕ} → Flags (AskedAt marks at 1 (k - 1)) s → Flags (AskedAt marks at 2 (k - 1)) b
      → FlagsFrom marks at size (k - 1) (2 * flags + (s + 65536 * b))
  flags_more some {s} {b} one two = record {
    steps = 2 * f.steps + s;
    bans = 2 * f.bans + b;
    is = omega (arith, f.is);
    ones = row_more f.ones some one;
    twos = row_more f.twos some two;
  }

  pub flags_end : size ≤ 16 → k ≤ 0 → Flagged marks at size flags
  flags_end few none =
      let steps = row_end few none f.ones in
      let bans = row_end few none f.twos in
      let upper : flags / 65536 ≡ f.bans = omega (arith, f.is, steps.fits) in
      record {
        ones = λ b l. rw (f.is, beside_low 16 f.bans steps.fits b (omega arith)) (steps.tells b l);
        twos = λ b l. rw upper (bans.tells b l);
      }
