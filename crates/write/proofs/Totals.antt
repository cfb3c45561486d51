-- What the words make is what the declarations make. Assumes nothing.
use Rattle.std.proofs.Common.{ℕ, ◌+◌, ◌*◌, ◌%◌, ◌≤◌, ◌≡◌, refl, ap, ◌∙◌, Bool, true, false, not, cond, List, [], ◌∷◌, ◌++◌, map, arith, ltb-true, lt-ltb, ltb, eqb, length, drop, length-append, drop_of_length-le}
use lib.ListN.{length-map}
use Rattle.grammar.specs.Tree.{Declaration}
use Rattle.model.specs.Tables.{Rule, kids_of, kids_of_all, rules_of}
use Rattle.write.specs.Steps.Code.{Coded, Counted}
use Rattle.write.specs.Steps.Reading.{Row, operands_in, own_in, extra_in, star_in, rule_kind_in, need_after, inner_of, free_after, own_row, extra_row}
use Rattle.write.specs.Steps.Reading.{own_due, extra_due, due_of, rows_at, rows_in, types_in, kids_in}
use Rattle.write.specs.Steps.Writing.{kids_of_rows}
use Rattle.write.proofs.Words.{Counting}
use Rattle.write.proofs.Puts.{kids_sum}
use Rattle.write.proofs.Passes.{kids_length, extra_few}
use Rattle.write.proofs.Models.{row_for}
use Rattle.write.proofs.Roots.{rows_are}

-- each row is due at one pass, where there is one
record Once (n : ℕ) (due due' : Bool) : Type 0 where
  rows : (r : Row) → length (due_of due r) + length (due_of due' r) ≡ n
  kids : (r : Row) → length (kids_of_rows (due_of due r)) + length (kids_of_rows (due_of due' r)) ≡ n * length r.kids

once_first : Once 1 true false
once_first = record { rows = λ r. refl; kids = λ r. omega (arith, length-append r.kids []) }

once_later : Once 1 false true
once_later = record { rows = λ r. refl; kids = λ r. omega (arith, length-append r.kids []) }

once_never : Once 0 false false
once_never = record { rows = λ r. refl; kids = λ r. omega arith }

own_once : (need w : ℕ) → Once (own_in w) (own_due false need w) (own_due true need w)
unfolding own_in own_due
own_once need w = go (ltb w 65536) (eqb need 0)
  where
    go : (name root : Bool) → Once (cond name 0 1) (cond name false (cond false (not root) root)) (cond name false (cond true (not root) root))
    go true root = once_never
    go false true = once_first
    go false false = once_later

extra_once : (w : ℕ) → Once (extra_in w) (extra_due false w) (extra_due true w)
unfolding extra_in extra_due
extra_once w = go (ltb w 393216)
  where
    go : (plain : Bool) → Once (cond plain 0 1) false (not plain)
    go true = once_never
    go false = once_later

own_all : (w : ℕ) → own_in w * (operands_in w + extra_in w) ≡ operands_in w + extra_in w
unfolding own_in operands_in extra_in
own_all w = go (ltb w 65536) refl
  where
    go : (name : Bool) → ltb w 65536 ≡ name → cond name 0 1 * (cond name 0 (w % 65536) + cond (ltb w 393216) 0 1)
        ≡ cond name 0 (w % 65536) + cond (ltb w 393216) 0 1
    go true e = let l = ltb-true w 65536 e in rw (lt-ltb w 393216 (omega arith))
    go false e = omega arith

extra_all : (w : ℕ) → extra_in w * star_in w ≡ star_in w
unfolding extra_in star_in
extra_all w = go (ltb w 393216) refl
  where
    go : (plain : Bool) → ltb w 393216 ≡ plain → cond plain 0 1 * cond (ltb w 458752) 0 1 ≡ cond (ltb w 458752) 0 1
    go true e = let l = ltb-true w 393216 e in rw (lt-ltb w 458752 (omega arith))
    go false e = omega arith

module _ (need x w : ℕ) (ws : List ℕ) where
  abbrev y : ℕ
  y = inner_of need x w

  abbrev own : Bool → List Row
  own later = due_of (own_due later need w) (own_row y w ws)

  abbrev extra : Bool → List Row
  extra later = due_of (extra_due later w) (extra_row y w ws)

  word_types : length (rows_at false need x w ws) + length (rows_at true need x w ws) ≡ own_in w + extra_in w
  word_types = omega (
    arith,
    length-append (own false) (extra false),
    length-append (own true) (extra true),
    (own_once need w).rows (own_row y w ws),
    (extra_once w).rows (extra_row y w ws),
  )

  word_kids : length (kids_of_rows (rows_at false need x w ws)) + length (kids_of_rows (rows_at true need x w ws)) ≡ operands_in w + extra_in w + star_in w
  word_kids =
      let a : length (own_row y w ws).kids ≡ operands_in w + extra_in w =
      kids_length (rule_kind_in w) (operands_in w) (extra_in w) (y + extra_in w) ws (extra_few w) in
      let b : length (extra_row y w ws).kids ≡ star_in w = kids_length (4 * star_in w) (star_in w) 0 (y + 1) ws (omega arith) ∙ omega arith in
      let c : own_in w * length (own_row y w ws).kids ≡ operands_in w + extra_in w = rw a (own_all w) in
      let d : extra_in w * length (extra_row y w ws).kids ≡ star_in w = rw b (extra_all w) in
      omega (
        arith,
        kids_sum (own false) (extra false),
        kids_sum (own true) (extra true),
        (own_once need w).kids (own_row y w ws) ∙ c,
        (extra_once w).kids (extra_row y w ws) ∙ d,
      )

all_types : (need x : ℕ) (ws : List ℕ) → length (rows_in false need x ws) + length (rows_in true need x ws) ≡ types_in ws
all_types need x [] = refl
all_types need x (w ∷ ws) =
    let need' = need_after need w in
    let x' = free_after need x w in
    omega (
      arith,
      length-append (rows_at false need x w ws) (rows_in false need' x' ws),
      length-append (rows_at true need x w ws) (rows_in true need' x' ws),
      word_types need x w ws,
      all_types need' x' ws,
    )

all_kids : (need x : ℕ) (ws : List ℕ) → length (kids_of_rows (rows_in false need x ws)) + length (kids_of_rows (rows_in true need x ws)) ≡ kids_in ws
all_kids need x [] = refl
all_kids need x (w ∷ ws) =
    let need' = need_after need w in
    let x' = free_after need x w in
    omega (
      arith,
      kids_sum (rows_at false need x w ws) (rows_in false need' x' ws),
      kids_sum (rows_at true need x w ws) (rows_in true need' x' ws),
      word_kids need x w ws,
      all_kids need' x' ws,
    )

kids_are : (rs : List Rule) → kids_of_rows (map row_for rs) ≡ kids_of_all rs
kids_are [] = refl
kids_are (r ∷ rs) = ap (λ (l : List ℕ). kids_of r ++ l) (kids_are rs)

pub counted : (ds : List Declaration) {code : List ℕ} {c types kids : ℕ} → Coded ds code → Counting code c types kids → length code ≤ c
    → Counted ds types kids
counted ds {code} {c} {types} {kids} h n past =
    let rs = rules_of ds in
    let e = length ds in
    let first = rows_in false 0 e code in
    let later = rows_in true 0 e code in
    let gone : drop c code ≡ [] = drop_of_length-le code {i = c} past in
    let all-t : types + 0 ≡ types_in code = rw gone at n.types_are in
    let all-k : kids + 0 ≡ kids_in code = rw gone at n.kids_are in
    let t : length (first ++ later) ≡ length rs = rw (rows_are h) (length-map rs row_for) in
    let k : length (kids_of_rows (first ++ later)) ≡ length (kids_of_all rs) = rw (rows_are h, kids_are rs) in
    record {
      types_are = omega (arith, length-append first later, all_types 0 e code);
      kids_are = omega (arith, kids_sum first later, all_kids 0 e code);
    }
