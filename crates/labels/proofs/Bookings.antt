-- A label that is entered stands behind those before it, and leaves them as they are. Assumes nothing.
use Rattle.std.proofs.Common.{ℕ, suc, ◌+◌, ◌≤◌, ◌<◌, ◌≡◌, refl, sym, ap, ◌∙◌, ◌⊎◌, inl, inr, List, ◌++◌, arith, length, get_or, set, take, drop, length-set, take-take, drop_at, length-take-le, get_or-set_same, get_or-set_other}
use Rattle.std.proofs.Math.Seq.{slice, paste, take-append-le, take-paste, take-length, length_paste_head}
use Rattle.table.proofs.Lists.{le_or_lt}
use Rattle.runs.specs.Putting.{Fits}
use Rattle.labels.specs.Steps.Booked.{label_in}
use Rattle.labels.specs.Steps.Entered.{Booking, Entered}

-- what ends before a place does not see what is put there
slice_before : (a b at : ℕ) (d s : List ℕ) → b ≤ at → at + length s ≤ length d → slice a b (paste d at s (length s)) ≡ slice a b d
slice_before a b at d s h room =
    let front : length (take at d ++ take (length s) s) ≡ at + length s = length_paste_head d at s (length s) (omega arith) (omega arith) in
    ap (drop a)
    (take-append-le b (take at d ++ take (length s) s) (drop (at + length s) d) (omega arith)
    ∙ take-append-le b (take at d) (take (length s) s) (omega (arith, length-take-le at d (omega arith)))
    ∙ take-take b at d h)

-- what is put there stands there
slice_there : (at : ℕ) (d s : List ℕ) → at + length s ≤ length d → slice at (at + length s) (paste d at s (length s)) ≡ s
slice_there at d s room =
    ap (drop at) (take-paste d at s (length s) (omega arith) (omega arith))
    ∙ drop_at (take at d) (take (length s) s) at (length-take-le at d (omega arith))
    ∙ take-length s

pub booking_start : {label : ℕ → List ℕ} {names : List ℕ} (starts : List ℕ) → 0 < length starts → Booking label names (set starts 0 0) 0
booking_start starts h = record {
  few = let e = get_or-set_same starts 0 0 0 h in omega arith;
  before = λ y l. absurd (omega arith);
  each = λ y l. absurd (omega arith);
}

module _ {label : ℕ → List ℕ} {name names starts named : List ℕ} {x at end : ℕ} where
  -- the room that is left for the label of x
  booking_room : length names ≡ 8192 → x < 256 → at ≡ get_or starts x 0 → Fits name names at named end → length name ≤ 32 → Booking label names starts x
      → at + length name ≤ length names
  booking_room n h a f l b = omega (arith, b.few)

  booking_more : length names ≡ 8192 → length starts ≡ 257 → x < 256 → at ≡ get_or starts x 0 → Fits name names at named end → label x ≡ name
      → length name ≤ 32 → Booking label names starts x → Booking label named (set starts (x + 1) end) (suc x)
  booking_more n m h a f e l b = record {
    few = omega (arith, last, f.end, b.few);
    before = λ y g. (let s = shifted y g in before y s);
    each = λ y g. each y (shifted y g);
  }
    where
      started : List ℕ
      started = set starts (x + 1) end

      room : at + length name ≤ length names
      room = booking_room n h a f l b

      next : get_or started (x + 1) 0 ≡ end
      next = get_or-set_same starts (x + 1) end 0 (omega arith)

      last : get_or started (suc x) 0 ≡ end
      last = let q : suc x ≡ x + 1 = omega arith in rw q next

      old : (y : ℕ) → y < x + 1 → get_or started y 0 ≡ get_or starts y 0
      old y g = get_or-set_other starts (x + 1) y end 0 (λ q. omega arith)

      shifted : (y : ℕ) → y < suc x → (y ≡ x) ⊎ (y < x)
      shifted y g = elim (le_or_lt x y) [ inl k ↦ inl (omega arith) | inr k ↦ inr k ]

      before : (y : ℕ) → (y ≡ x) ⊎ (y < x) → get_or started (y + 1) 0 ≤ get_or started (suc x) 0
      before y (inl q) = rw q (omega (arith, next, last))
      before y (inr g) = omega (arith, old (y + 1) (omega arith), b.before y g, last, f.end)

      each : (y : ℕ) → (y ≡ x) ⊎ (y < x) → label_in named started y ≡ label y
      each y (inl q) =
          rw (q, old x (omega arith), next, sym a, f.end, f.is room)
          (slice_there at names name room ∙ sym e)
      each y (inr g) =
          rw (old y (omega arith), old (y + 1) (omega arith), f.is room)
          (slice_before (get_or starts y 0) (get_or starts (y + 1) 0) at names name (omega (arith, b.before y g)) room ∙ b.each y g)

pub not_entered : {name names starts : List ℕ} {x : ℕ} → (256 ≤ x) ⊎ (32 < length name) → Entered name names starts x names starts
not_entered g = record { names_kept = refl; starts_kept = refl; of = λ label e l h b. absurd (elim g [ inl k ↦ omega arith | inr k ↦ omega arith ]) }

module _ {name names starts named : List ℕ} {x at end : ℕ} where
  pub no_room : length names ≡ 8192 → at ≡ get_or starts x 0 → Fits name names at named end → 8192 < end → Entered name names starts x named starts
  no_room n a f o = record { names_kept = f.kept; starts_kept = refl; of = λ label e l h b. absurd (omega (arith, booking_room n h a f l b, f.end)) }

  pub entered : length names ≡ 8192 → length starts ≡ 257 → at ≡ get_or starts x 0 → Fits name names at named end
      → Entered name names starts x named (set starts (x + 1) end)
  entered n m a f = record { names_kept = f.kept; starts_kept = length-set starts (x + 1) end; of = λ label e l h b. booking_more n m h a f e l b }

pub entered_as : {name other names starts named started : List ℕ} {x : ℕ} → name ≡ other → Entered name names starts x named started
    → Entered other names starts x named started
entered_as {names = names} {starts = starts} {named = named} {started = started} {x = x} e y = rw e at y
