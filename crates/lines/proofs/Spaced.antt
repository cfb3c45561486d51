-- Numbers with a blank before each, put one after another, and the room that a line's parts take. Assumes nothing.
use Rattle.std.proofs.Common.{ℕ, zero, suc, ◌+◌, ◌*◌, ◌/◌, ◌%◌, ◌≤◌, ◌<◌, ◌≡◌, refl, sym, ap, ◌∙◌, Bool, true, false, cond, List, [], ◌∷◌, ◌++◌, append_assoc, append-nil, arith, ltb, length, get_or, take, length-append, take-suc, length-take-le}
use Rattle.std.proofs.Math.ListN.{length-map}
use Rattle.lines.specs.Text.{raised, decimal_within, decimal, numbers, marks_text, line}
use Rattle.runs.specs.Putting.{Puts}
use Rattle.lines.specs.Steps.Putting.{Raisable}
use Rattle.runs.proofs.Texts.{puts_none, puts_then, puts_as}

pub one_raisable : (b by : ℕ) → b + by < 256 → Raisable by (b ∷ [])
one_raisable b by h zero l = h
one_raisable b by h (suc k) l = absurd (omega arith)

pub decimal_length : (k n : ℕ) → length (decimal_within k n) ≤ k
unfolding decimal_within
decimal_length zero n = omega arith
decimal_length (suc k) n = go (ltb n 10) (decimal_length k (n / 10))
  where
    go : (t : Bool) → length (decimal_within k (n / 10)) ≤ k → length (cond t ((48 + n) ∷ []) (decimal_within k (n / 10) ++ ((48 + n % 10) ∷ []))) ≤ suc k
    go true h = omega arith
    go false h = omega (arith, length-append (decimal_within k (n / 10)) ((48 + n % 10) ∷ []))

pub numbers_length : (ns : List ℕ) → length (numbers ns) ≤ 21 * length ns
unfolding numbers
numbers_length [] = omega arith
numbers_length (n ∷ ns) = omega (arith, length-append (decimal n) (numbers ns), decimal_length 20 n, numbers_length ns)

numbers_more : (ms : List ℕ) (n : ℕ) → numbers (ms ++ (n ∷ [])) ≡ numbers ms ++ (32 ∷ decimal n)
unfolding numbers
numbers_more [] n = ap (λ (l : List ℕ). 32 ∷ l) (append-nil (decimal n))
numbers_more (m ∷ ms) n = ap (λ (l : List ℕ). 32 ∷ l) (ap (λ (l : List ℕ). decimal m ++ l) (numbers_more ms n) ∙ sym (append_assoc (decimal m) (numbers ms) (32 ∷ decimal n)))

room_left : (ns : List ℕ) (k : ℕ) → k ≤ length ns → length (numbers (take k ns)) ≤ 21 * k
room_left ns k h = omega (arith, numbers_length (take k ns), length-take-le k ns h)

-- the first k numbers are put
pub record Spaced (d : List ℕ) (from : ℕ) (ns : List ℕ) (k : ℕ) (out : List ℕ) (at : ℕ) : Type 0 where
  pub within : k ≤ length ns
  pub puts : Puts (numbers (take k ns)) d from out at

module _ {d ns : List ℕ} {from : ℕ} where
  pub spaced_start : Spaced d from ns 0 d from
  unfolding numbers
  spaced_start = record { within = omega arith; puts = puts_none }

  pub spaced_room : {k at : ℕ} {out : List ℕ} → Spaced d from ns k out at → at ≤ from + 21 * k
  spaced_room {k} s = omega (arith, s.puts.end, room_left ns k s.within)

  pub spaced_more : {k at r : ℕ} {out after : List ℕ} → from + 21 * length ns ≤ length d → k < length ns → Spaced d from ns k out at
      → Puts (32 ∷ decimal (get_or ns k 0)) out at after r → Spaced d from ns (k + 1) after r
  spaced_more {k} room h s p =
      let e : suc k ≡ k + 1 = omega arith in
      let one_more : numbers (take k ns) ++ (32 ∷ decimal (get_or ns k 0)) ≡ numbers (take (k + 1) ns) =
      sym (ap numbers (ap (λ (n : ℕ). take n ns) (sym e) ∙ take-suc ns k 0 h) ∙ numbers_more (take k ns) (get_or ns k 0)) in
      record {
        within = omega arith;
        puts = puts_as one_more (puts_then (omega (arith, room_left ns k s.within, s.within)) s.puts p);
      }

pub marks_length : (ms : List ℕ) → length (marks_text ms) ≤ 1 + length ms
unfolding marks_text
marks_length [] = omega arith
marks_length (m ∷ ms) = omega (arith, length-map ms (λ (b : ℕ). b + 48))

pub line_length : (word ns ms : List ℕ) → length (line word ns ms) ≤ length word + 21 * length ns + length ms + 2
line_length word ns ms = omega (
  arith,
  length-append (word ++ numbers ns ++ marks_text ms) (10 ∷ []),
  length-append (word ++ numbers ns) (marks_text ms),
  length-append word (numbers ns),
  numbers_length ns,
  marks_length ms,
)

pub marks_none : (ms : List ℕ) → length ms ≡ 0 → [] ≡ marks_text ms
unfolding marks_text
marks_none [] h = refl
marks_none (m ∷ ms) h = absurd (omega arith)

pub marks_some : (ms : List ℕ) → 0 < length ms → 32 ∷ raised 48 ms ≡ marks_text ms
unfolding marks_text
marks_some [] h = absurd (omega arith)
marks_some (m ∷ ms) h = refl
