-- The lines of a text are lines of every text that begins with it, and one line behind a text that ends with a newline adds one start.
-- Assumes nothing.
use Rattle.std.proofs.Common.{ℕ, suc, ◌+◌, ◌-◌, ◌≤◌, ◌<◌, ◌≡◌, sym, ap, subst, ◌∙◌, ◌⊎◌, inl, inr, List, [], ◌++◌, arith, length, get_or, drop, length-append, get_or-append-add}
use Prim.Native.Char.{code}
use Rattle.std.proofs.Math.ListN.{get_or-append}
use Rattle.std.proofs.Math.Seq.{slice, take-append-le, take-length, drop-append_seam}
use Rattle.table.specs.Words.{types}
use Rattle.table.specs.Check.{Accepted}
use Rattle.table.proofs.Lists.{le_or_lt}
use Rattle.grammar.specs.Bytes.{Byte}
use Rattle.labels.specs.Steps.Booked.{Labelled}
use Rattle.listing.specs.Listing.{LineOf}
use Rattle.listing.specs.Faults.{Starts, at_front, behind_newline, IsSet, LineAt}
use Rattle.listing.proofs.Lines.{Ended, line_ended, line_some}

pub starts_below : {t : List ℕ} {k : ℕ} → Starts t k → k < length t
starts_below (at_front h) = h
starts_below (behind_newline b h) = h

pub byte_more : {t : List ℕ} {k c : ℕ} (u : List ℕ) → Byte t k c → Byte (t ++ u) k c
byte_more {t} {k} u b = record { within = omega (arith, b.within, length-append t u); is = get_or-append t u 0 k b.within ∙ b.is }

pub byte_less : {k c : ℕ} (t u : List ℕ) → Byte (t ++ u) k c → k < length t → Byte t k c
byte_less {k} t u b h = record { within = h; is = sym (get_or-append t u 0 k h) ∙ b.is }

pub starts_more : {t : List ℕ} {k : ℕ} (u : List ℕ) → Starts t k → Starts (t ++ u) k
starts_more {t} u (at_front h) = at_front (omega (arith, length-append t u))
starts_more {t} u (behind_newline b h) = behind_newline (byte_more u b) (omega (arith, length-append t u))

pub starts_less : {k : ℕ} (t u : List ℕ) → Starts (t ++ u) k → k < length t → Starts t k
starts_less t u (at_front g) h = at_front h
starts_less t u (behind_newline b g) h = behind_newline (byte_less t u b (omega arith)) h

pub slice_more : (t u : List ℕ) (a b : ℕ) → b ≤ length t → slice a b (t ++ u) ≡ slice a b t
slice_more t u a b h = ap (drop a) (take-append-le b t u h)

pub slice_behind : (t u : List ℕ) → slice (length t) (length (t ++ u)) (t ++ u) ≡ u
slice_behind t u = ap (drop (length t)) (take-length (t ++ u)) ∙ drop-append_seam t u

-- a text without a line that is begun: empty, or with a newline at its end
abbrev pub Closed : List ℕ → Type 0
Closed t = (t ≡ []) ⊎ Byte t (length t - 1) (code "\n")

pub closed_line : (t line : List ℕ) → Ended line → Closed (t ++ line)
closed_line t line h =
    let size = length-append t line in
    let at : length t + (length line - 1) ≡ length (t ++ line) - 1 = omega (arith, h.some) in
    inr record {
      within = omega (arith, h.some);
      is = ap (λ (k : ℕ). get_or (t ++ line) k 0) (sym at) ∙ get_or-append-add t line (length line - 1) 0 ∙ h.last;
    }

pub closed_start : (t u : List ℕ) → Closed t → 0 < length u → Starts (t ++ u) (length t)
closed_start t u (inl e) h = rw e (at_front h)
closed_start t u (inr b) h =
    let e : suc (length t - 1) ≡ length t = omega (arith, b.within) in
    subst (Starts (t ++ u)) e (behind_newline (byte_more u b) (omega (arith, length-append t u)))

-- with one line more, one place more at which a line starts
pub start_split : (t line : List ℕ) {k : ℕ} → Ended line → Starts (t ++ line) k → Starts t k ⊎ (k ≡ length t)
start_split t line {k} h s = elim (le_or_lt (length t) k) [ inl low ↦ inr (go s low) | inr high ↦ inl (starts_less t line s high) ]
  where
    go : {k : ℕ} → Starts (t ++ line) k → length t ≤ k → k ≡ length t
    go (at_front g) low = omega arith
    go (behind_newline {a = i} b g) low = elim (le_or_lt (length t) i) [
      | inl m ↦ absurd (
          h.before (i - length t) (omega (arith, length-append t line))
          (sym (get_or-append-add t line (i - length t) 0) ∙ ap (λ (j : ℕ). get_or (t ++ line) j 0) (omega arith) ∙ b.is)
          )
      | inr m ↦ omega arith
    ]

pub line_more : {label : ℕ → List ℕ} {ws t : List ℕ} {a b p m : ℕ} (u : List ℕ) → LineAt label ws t a b p m → LineAt label ws (t ++ u) a b p m
line_more {label} {ws} {t} {a} {b} {p} {m} u h = record {
  starts = starts_more u h.starts;
  within = omega (arith, h.within, length-append t u);
  mark_set = h.mark_set;
  line = subst (LineOf label ws p m) (sym (slice_more t u a b h.within)) h.line;
}

module _ {ws : List ℕ} {label : ℕ → List ℕ} (a : Accepted ws) (l : Labelled label (types ws)) where
  pub line_less : {from b p m : ℕ} (t u : List ℕ) → LineAt label ws (t ++ u) from b p m → b ≤ length t → LineAt label ws t from b p m
  line_less {from} {b} {p} {m} t u h low = record {
    starts = starts_less t u h.starts (omega (arith, line_some a l h));
    within = low;
    mark_set = h.mark_set;
    line = subst (LineOf label ws p m) (slice_more t u from b low) h.line;
  }

  -- a line behind others
  pub line_behind : {p m : ℕ} (t : List ℕ) {line : List ℕ} → Closed t → IsSet m → LineOf label ws p m line
      → LineAt label ws (t ++ line) (length t) (length (t ++ line)) p m
  line_behind {p} {m} t {line} c s h = record {
    starts = closed_start t line c (line_ended a l h).some;
    within = omega arith;
    mark_set = s;
    line = subst (LineOf label ws p m) (sym (slice_behind t line)) h;
  }
