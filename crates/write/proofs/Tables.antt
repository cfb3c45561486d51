-- Rows that are written one after another stand as the records and the child list of a table. Assumes nothing.
use Rattle.std.proofs.Common.{ℕ, suc, ◌+◌, ◌*◌, ◌%◌, ◌≤◌, ◌<◌, ◌≡◌, refl, ◌∙◌, true, false, List, [], ◌∷◌, ◌++◌, map, append_assoc, append-nil, arith, length, set, take, drop, length-append, length-drop, drop-set-lt, take_at, take-add, length-take-le}
use lib.Seq.{sets, sets-eq, length-sets, take-set-le, drop-set-add}
use Rattle.grammar.specs.Tree.{Declaration}
use Rattle.model.specs.Tables.{Rule, kind_of, kids_of, kids_of_all, records_from, rules_of, words_of, table_of}
use Rattle.model.proofs.Shape.{table_length}
use Rattle.write.specs.Steps.Code.{Coded, Counted, untotalled}
use Rattle.write.specs.Steps.Reading.{rows_in}
use Rattle.write.specs.Steps.Writing.{Puts, write_row, write_rows, Wrote, head_of}
use Rattle.write.proofs.Puts.{puts_sized, wrote_then}
use Rattle.write.proofs.Passes.{written_length}
use Rattle.write.proofs.Models.{row_for}
use Rattle.write.proofs.Roots.{rows_are}

-- a run of words that is put, and what is before and behind it
take_before : (n : ℕ) (l : List ℕ) (i : ℕ) (vs : List ℕ) → n ≤ i → take n (sets l i vs) ≡ take n l
take_before n l i [] h = refl
take_before n l i (v ∷ vs) h = take_before n (set l i v) (suc i) vs (omega arith) ∙ take-set-le n l i v h

take_through : (l : List ℕ) (i : ℕ) (vs : List ℕ) → i + length vs ≤ length l → take (i + length vs) (sets l i vs) ≡ take i l ++ vs
take_through l i vs h =
    rw (sets-eq vs l i h)
    (take_at (take i l ++ vs) (drop (i + length vs) l) (i + length vs) (omega (arith, length-append (take i l) vs, length-take-le i l (omega arith))))

drop_behind : (n : ℕ) (l : List ℕ) (i : ℕ) (vs : List ℕ) → i + length vs ≤ n → drop n (sets l i vs) ≡ drop n l
drop_behind n l i [] h = refl
drop_behind n l i (v ∷ vs) h = drop_behind n (set l i v) (suc i) vs (omega arith) ∙ drop-set-lt n l i v (omega arith)

drop_to : (n : ℕ) (l : List ℕ) (i j : ℕ) (vs : List ℕ) → j ≡ n + i → drop n (sets l j vs) ≡ sets (drop n l) i vs
drop_to n l i j [] e = refl
drop_to n l i j (v ∷ vs) e = drop_to n (set l j v) (suc i) (suc j) vs (omega arith) ∙ rw (e, drop-set-add n l i v)

-- the words before the record of type t, and the first k children
record Stands (base t k : ℕ) (front kids out : List ℕ) : Type 0 where
  front_is : take (8 + 3 * t) out ≡ front
  kids_are : take k (drop base out) ≡ kids

row_stands : (r : Rule) {base t k : ℕ} {front kids out : List ℕ} → Stands base t k front kids out → 8 + 3 * t + 3 ≤ base
    → base + k + length (kids_of r) ≤ length out → k + length (kids_of r) < 65536
    → Stands base (t + 1) (k + length (kids_of r)) (front ++ (kind_of r ∷ length (kids_of r) ∷ k ∷ [])) (kids ++ kids_of r)
    (write_row base t k (row_for r) out)
unfolding write_row
row_stands r {base} {t} {k} {front} {kids} {out} s low high few = record {
  front_is = rw next (
      take_before (8 + 3 * t + 3) after (base + k) ks (omega arith)
      ∙ take_through out (8 + 3 * t) words (omega arith)
      ∙ rw (s.front_is, count, first)
      );
  kids_are = rw (drop_to base after k (base + k) ks refl)
      (take_through (drop base after) k ks (omega (arith, length-drop base after, length-sets out (8 + 3 * t) words))
      ∙ rw (drop_behind base out (8 + 3 * t) words (omega arith), s.kids_are));
}
  where
    ks : List ℕ
    ks = kids_of r

    words : List ℕ
    words = kind_of r ∷ length ks % 65536 ∷ k % 65536 ∷ []

    after : List ℕ
    after = sets out (8 + 3 * t) words

    next : 8 + 3 * (t + 1) ≡ 8 + 3 * t + 3
    next = omega arith

    count : length ks % 65536 ≡ length ks
    count = omega arith

    first : k % 65536 ≡ k
    first = omega arith

rows_stand : (rs : List Rule) {base t k : ℕ} {front kids out : List ℕ} → Stands base t k front kids out → 8 + 3 * t + 3 * length rs ≤ base
    → base + k + length (kids_of_all rs) ≤ length out → k + length (kids_of_all rs) < 65536
    → Stands base (t + length rs) (k + length (kids_of_all rs)) (front ++ records_from k rs) (kids ++ kids_of_all rs)
    (write_rows base t k (map row_for rs) out)
rows_stand [] {base} {t} {k} {front} {kids} {out} s low high few =
    let same-t : t + 0 ≡ t = omega arith in
    let same-k : k + 0 ≡ k = omega arith in
    rw (same-t, same-k, append-nil front, append-nil kids) s
rows_stand (r ∷ rs) {base} {t} {k} {front} {kids} {out} s low high few =
    let n = length (kids_of r) in
    let sum = length-append (kids_of r) (kids_of_all rs) in
    let all-t : t + 1 + length rs ≡ t + suc (length rs) = omega arith in
    let all-k : k + n + length (kids_of_all rs) ≡ k + length (kids_of r ++ kids_of_all rs) = omega arith in
    let one = row_stands r s (omega arith) (omega arith) (omega arith) in
    let all = rows_stand rs one (omega arith) (omega (arith, written_length base t k (row_for r ∷ []) out)) (omega arith) in
    rw (all-t, all-k, append_assoc front (kind_of r ∷ n ∷ k ∷ []) (records_from (k + n) rs), append_assoc kids (kids_of r) (kids_of_all rs)) at all

-- both passes
pub all_wrote : {ds : List Declaration} {code : List ℕ} {declared base t k t' k' : ℕ} {out out' out'' : List ℕ} → Coded ds code → length ds ≡ declared
    → Wrote base (rows_in false 0 declared code) 0 0 out t k out' → Wrote base (rows_in true 0 declared code) t k out' t' k' out''
    → Wrote base (map row_for (rules_of ds)) 0 0 out t' k' out''
all_wrote {code = code} {declared = declared} h e a b =
    rw (← e, rows_are h) at (wrote_then (rows_in false 0 declared code) (rows_in true 0 declared code) a b)

untotalled_is : (ds : List Declaration) → head_of (length (rules_of ds)) (length (kids_of_all (rules_of ds)))
    ++ (records_from 0 (rules_of ds) ++ kids_of_all (rules_of ds)) ≡ untotalled ds
unfolding words_of
untotalled_is ds = refl

pub table_stands : (ds : List Declaration) {types kids t k : ℕ} {out start out' : List ℕ} → Counted ds types kids → types ≤ 256 → kids ≤ 1024
    → length out ≡ 1800 → Puts out 0 (head_of types kids) start → Wrote (8 + 3 * types) (map row_for (rules_of ds)) 0 0 start t k out'
    → take (length (table_of 1 ds)) out' ≡ untotalled ds
table_stands ds {types} {kids} {t} {k} {out} {start} {out'} n few short size p w =
    rw (table_length 1 ds, take-add (8 + 3 * length rs) (length (kids_of_all rs)) out', front_there, kids_there)
    (append_assoc head (records_from 0 rs) (kids_of_all rs) ∙ untotalled_is ds)
  where
    rs : List Rule
    rs = rules_of ds

    head : List ℕ
    head = head_of (length rs) (length (kids_of_all rs))

    is_head : start ≡ sets out 0 head
    is_head = rw (n.types_are, n.kids_are) at p.is

    begin : Stands (8 + 3 * length rs) 0 0 head [] start
    begin = record { front_is = rw is_head (take_through out 0 head (omega arith)); kids_are = refl }

    all : Stands (8 + 3 * length rs) (0 + length rs) (0 + length (kids_of_all rs)) (head ++ records_from 0 rs) (kids_of_all rs)
        (write_rows (8 + 3 * length rs) 0 0 (map row_for rs) start)
    all = rows_stand rs begin (omega arith) (omega (arith, puts_sized p size, n.types_are, n.kids_are)) (omega (arith, n.kids_are))

    is : out' ≡ write_rows (8 + 3 * length rs) 0 0 (map row_for rs) start
    is = rw n.types_are at w.is

    front_there : take (8 + 3 * length rs) out' ≡ head ++ records_from 0 rs
    front_there = let e : 0 + length rs ≡ length rs = omega arith in rw is (rw e at all.front_is)

    kids_there : take (length (kids_of_all rs)) (drop (8 + 3 * length rs) out') ≡ kids_of_all rs
    kids_there = let e : 0 + length (kids_of_all rs) ≡ length (kids_of_all rs) = omega arith in rw is (rw e at all.kids_are)
