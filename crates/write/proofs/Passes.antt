-- The rows of a code written word by word. Assumes nothing.
use Rattle.std.proofs.Common.{ℕ, suc, ◌+◌, ◌*◌, ◌%◌, ◌≤◌, ◌<◌, ◌≡◌, refl, ap, ◌∙◌, Bool, true, false, cond, List, [], ◌∷◌, arith, ltb, length, get_or, drop, length-append, drop-cons}
use lib.Seq.{sets, length-sets}
use Rattle.table.specs.Steps.Reading.{Within}
use Rattle.write.specs.Steps.Reading.{Row, operands_in, extra_in, star_in, rule_kind_in, need_after, inner_of, free_after, children_in, last_of, row_of}
use Rattle.write.specs.Steps.Reading.{own_row, extra_row, own_due, extra_due, due_of, rows_at, rows_in, Numbered}
use Rattle.write.specs.Steps.Writing.{kids_of_rows, write_row, write_rows, Wrote, Low}
use Rattle.write.proofs.Puts.{children_length, last_length, kids_sum, wrote_then}

-- writing keeps the size
pub written_length : (base t k : ℕ) (rs : List Row) (out : List ℕ) → length (write_rows base t k rs out) ≡ length out
unfolding write_row
written_length base t k [] out = refl
written_length base t k (r ∷ rs) out =
    let record-words = r.kind ∷ length r.kids % 65536 ∷ k % 65536 ∷ [] in
    written_length base (t + 1) (k + length r.kids) rs (write_row base t k r out)
    ∙ length-sets (sets out (8 + 3 * t) record-words) (base + k) r.kids ∙ length-sets out (8 + 3 * t) record-words

pub wrote_sized : {base t k t' k' : ℕ} {rs : List Row} {out out' : List ℕ} → Wrote base rs t k out t' k' out' → length out ≡ 1800 → length out' ≡ 1800
wrote_sized {base} {t} {k} {rs = rs} {out = out} w h = ap (λ (l : List ℕ). length l) w.is ∙ written_length base t k rs out ∙ h

-- how many rows are due, and their children
pub kids_length : (kind n e y : ℕ) (ws : List ℕ) → e < 2 → length (row_of kind n e y ws).kids ≡ n + e
kids_length kind n e y ws few = omega (arith, length-append (children_in n y ws) (last_of e y), children_length n y ws, last_length e y few)

due_few : (due : Bool) (r : Row) → length (due_of due r) ≤ 1
due_few true r = omega arith
due_few false r = omega arith

due_kids : (due : Bool) (r : Row) → length (kids_of_rows (due_of due r)) ≤ length r.kids
due_kids true r = omega (arith, length-append r.kids [])
due_kids false r = omega arith

pub due_low : (due : Bool) (kind n e y : ℕ) (ws : List ℕ) {base t k t' k' : ℕ} {out out' : List ℕ} → e < 2 → n < 65536
    → Wrote base (due_of due (row_of kind n e y ws)) t k out t' k' out' → Low 1073741824 base t k → Low 2147483648 base t' k'
due_low due kind n e y ws few-extra few w low =
    let r = row_of kind n e y ws in
    record {
      base_low = low.base_low;
      types_low = omega (arith, low.types_low, w.types, due_few due r);
      kids_low = omega (arith, low.kids_low, w.kids, due_kids due r, kids_length kind n e y ws few-extra);
    }

cond_low : (b : Bool) {x y limit : ℕ} → x < limit → y < limit → cond b x y < limit
cond_low true l m = l
cond_low false l m = m

operands_few : (w : ℕ) → operands_in w < 65536
unfolding operands_in
operands_few w = cond_low (ltb w 65536) (omega arith) (omega arith)

pub extra_few : (w : ℕ) → extra_in w < 2
unfolding extra_in
extra_few w = cond_low (ltb w 393216) (omega arith) (omega arith)

star_few : (w : ℕ) → star_in w < 2
unfolding star_in
star_few w = cond_low (ltb w 458752) (omega arith) (omega arith)

rows_few : (later : Bool) (need x w : ℕ) (ws : List ℕ) → length (rows_at later need x w ws) ≤ 2
rows_few later need x w ws =
    let y = inner_of need x w in
    let a = due_of (own_due later need w) (own_row y w ws) in
    let b = due_of (extra_due later w) (extra_row y w ws) in
    omega (arith, length-append a b, due_few (own_due later need w) (own_row y w ws), due_few (extra_due later w) (extra_row y w ws))

rows_kids_few : (later : Bool) (need x w : ℕ) (ws : List ℕ) → length (kids_of_rows (rows_at later need x w ws)) ≤ 200000
rows_kids_few later need x w ws =
    let y = inner_of need x w in
    let a = due_of (own_due later need w) (own_row y w ws) in
    let b = due_of (extra_due later w) (extra_row y w ws) in
    omega (
      arith,
      kids_sum a b,
      due_kids (own_due later need w) (own_row y w ws),
      due_kids (extra_due later w) (extra_row y w ws),
      kids_length (rule_kind_in w) (operands_in w) (extra_in w) (y + extra_in w) ws (extra_few w),
      kids_length (4 * star_in w) (star_in w) 0 (y + 1) ws (omega arith),
      operands_few w,
      extra_few w,
      star_few w,
    )

pub all_kids_few : (later : Bool) (need x : ℕ) (ws : List ℕ) → length (kids_of_rows (rows_in later need x ws)) ≤ 200000 * length ws
all_kids_few later need x [] = omega arith
all_kids_few later need x (w ∷ ws) =
    let rest = rows_in later (need_after need w) (free_after need x w) ws in
    omega (
      arith,
      kids_sum (rows_at later need x w ws) rest,
      rows_kids_few later need x w ws,
      all_kids_few later (need_after need w) (free_after need x w) ws,
    )

pub all_rows_few : (later : Bool) (need x : ℕ) (ws : List ℕ) → length (rows_in later need x ws) ≤ 2 * length ws
all_rows_few later need x [] = omega arith
all_rows_few later need x (w ∷ ws) =
    let rest = rows_in later (need_after need w) (free_after need x w) ws in
    omega (
      arith,
      length-append (rows_at later need x w ws) rest,
      rows_few later need x w ws,
      all_rows_few later (need_after need w) (free_after need x w) ws,
    )

-- the pass has come to the word at c: whatever writes the rows from there on has then written all
pub record Passing (code : List ℕ) (later : Bool) (x base : ℕ) (out₀ : List ℕ) (t₀ k₀ : ℕ) (out : List ℕ) (t k free need c : ℕ) : Type 0 where
  pub there : Numbered code c free
  pub size : length out ≡ 1800
  pub few : need ≤ 65536 * c
  pub types_few : t ≤ t₀ + 2 * c
  pub kids_few : k ≤ k₀ + 200000 * c
  pub goes : (t'' k'' : ℕ) (out'' : List ℕ) → Wrote base (rows_in later need free (drop c code)) t k out t'' k'' out''
      → Wrote base (rows_in later 0 x code) t₀ k₀ out₀ t'' k'' out''

pub passing_more : {code : List ℕ} {later : Bool} {x base : ℕ} {out₀ : List ℕ} {t₀ k₀ : ℕ} {out : List ℕ} {t k free need c w t' k' free' need' : ℕ}
    {out' : List ℕ} → Passing code later x base out₀ t₀ k₀ out t k free need c → c < length code → Within 4294967296 (get_or code c 0) w
    → Wrote base (rows_at later need free (get_or code c 0) (drop (c + 1) code)) t k out t' k' out'
    → Within (free + 3) (free_after need free w) free' → Within (need + 65536) (need_after need w) need'
    → Passing code later x base out₀ t₀ k₀ out' t' k' free' need' (c + 1)
passing_more {code} {later} {x} {base} {free = free} {need = need} {c = c} p l word wrote f n =
    let head = get_or code c 0 in
    let tail = drop (c + 1) code in
    let next : c + 1 ≡ suc c = omega arith in
    let split : drop c code ≡ head ∷ tail = drop-cons code c 0 l ∙ rw next in
    let goes = rw split at p.goes in
    record {
      there = record { short = p.there.short; within = omega arith; low = omega (arith, p.there.low, f.small) };
      size = wrote_sized wrote p.size;
      few = omega (arith, p.few, n.small);
      types_few = omega (arith, p.types_few, wrote.types, rows_few later need free head tail);
      kids_few = omega (arith, p.kids_few, wrote.kids, rows_kids_few later need free head tail);
      goes = λ t'' k'' out'' h. goes t'' k'' out'' (wrote_then (rows_at later need free head tail)
          (rows_in later (need_after need head) (free_after need free head) tail) wrote (rw (f.is, n.is, word.is) at h));
    }
