-- The words of a model's code say the rules that the model makes. Assumes nothing.
use Rattle.std.proofs.Common.{ℕ, suc, ◌+◌, ◌-◌, ◌*◌, ◌≤◌, ◌<◌, ◌≡◌, refl, ap, ◌∙◌, Bool, true, false, cond, List, [], ◌∷◌, ◌++◌, map, append_assoc, append-nil, arith, lt-ltb, le-ltb, length, length-append}
use mathlib.Core.List.{map-append}
use Rattle.model.specs.Model.{Model, Models, Operator, element, made, either, in_order, optional, repeated, positive, single, then}
use Rattle.model.specs.Tables.{Rule, empty, star, size_of, sizes_of, inside_of, kind_of, kids_of, child_of, children_of, rule_of}
use Rattle.model.specs.Tables.{made_by, made_inside, made_by_each}
use Rattle.write.specs.Steps.Code.{word_of, count_of, code_of, code_of_operator, code_of_each}
use Rattle.write.specs.Steps.Reading.{operands_in, own_in, extra_in, rest_of, free_of, child_in, children_in}
use Rattle.write.specs.Steps.Reading.{Row, own_row, extra_row, extra_due, due_of, rows_in}
use Rattle.write.proofs.Skips.{rest_none, free_none}
use Rattle.write.proofs.Operators.{own_inner, extra_plain, extra_marked, Named, named_word, Plain, plain_word}
use Rattle.write.proofs.Operators.{Marked, optional_word, positive_word}

-- a rule as a row, and the rows of made types, which come later
abbrev pub row_for : Rule → Row
row_for r = record { kind = kind_of r; kids = kids_of r }

abbrev pub later_rows : Bool → List Rule → List Row
later_rows later rs = cond later (map row_for rs) []

later_join : (later : Bool) (rs ss : List Rule) → later_rows later (rs ++ ss) ≡ later_rows later rs ++ later_rows later ss
later_join true rs ss = map-append row_for rs ss
later_join false rs ss = refl

due_later : (later : Bool) (r : Rule) (rs : List Rule) → due_of later (row_for r) ++ later_rows later rs ≡ later_rows later (r ∷ rs)
due_later true r rs = refl
due_later false r rs = refl

pub regroup : (a b c d : List Row) → (a ++ b) ++ (c ++ d) ≡ (a ++ (b ++ c)) ++ d
regroup a b c d = rw (append_assoc a b (c ++ d), append_assoc a (b ++ c) d, append_assoc b c d)

module _ (number : List ℕ → ℕ) where
  -- every model has a word, and every operand one of its own
  some_words : (m : Model) → 1 ≤ length (code_of number m)
  some_words (element n) = omega arith
  some_words (made (either m ms)) = omega arith
  some_words (made (in_order m ms)) = omega arith
  some_words (made (optional m)) = omega arith
  some_words (made (repeated m)) = omega arith
  some_words (made (positive m)) = omega arith

  count_few : (ms : Models) → count_of ms ≤ length (code_of_each number ms)
  count_few (single m) = some_words m
  count_few (then m ms) = omega (arith, length-append (code_of number m) (code_of_each number ms), some_words m, count_few ms)

  -- the code of a model as the next operand, and that of several
  pub record Passed (m : Model) : Type 0 where
    rest : (need : ℕ) (ws : List ℕ) → rest_of (code_of number m ++ ws) (suc need) ≡ rest_of ws need
    free : (need x : ℕ) (ws : List ℕ) → free_of (code_of number m ++ ws) (suc need) x ≡ free_of ws need (x + size_of m)
    child : (x : ℕ) (ws : List ℕ) → child_in x (code_of number m ++ ws) ≡ child_of number x m
    rows : (later : Bool) (need x : ℕ) (ws : List ℕ) → rows_in later (suc need) x (code_of number m ++ ws)
        ≡ later_rows later (made_by number x m) ++ rows_in later need (x + size_of m) ws

  pub record PassedEach (ms : Models) : Type 0 where
    pub rest : (need : ℕ) (ws : List ℕ) → rest_of (code_of_each number ms ++ ws) (count_of ms + need) ≡ rest_of ws need
    pub free : (need x : ℕ) (ws : List ℕ) → free_of (code_of_each number ms ++ ws) (count_of ms + need) x ≡ free_of ws need (x + sizes_of ms)
    pub children : (x : ℕ) (ws : List ℕ) → children_in (count_of ms) x (code_of_each number ms ++ ws) ≡ children_of number x ms
    pub rows : (later : Bool) (need x : ℕ) (ws : List ℕ) → rows_in later (count_of ms + need) x (code_of_each number ms ++ ws)
        ≡ later_rows later (made_by_each number x ms) ++ rows_in later need (x + sizes_of ms) ws

  pub each_single : {m : Model} → Passed m → PassedEach (single m)
  each_single {m} p = record {
    rest = λ need ws. rw (one need) (p.rest need ws);
    free = λ need x ws. rw (one need) (p.free need x ws);
    children = λ x ws. rw (p.child x ws);
    rows = λ later need x ws. rw (one need) (p.rows later need x ws);
  }
    where
      one : (need : ℕ) → 1 + need ≡ suc need
      one need = omega arith

  each_then : {m : Model} {ms : Models} → Passed m → PassedEach ms → PassedEach (then m ms)
  each_then {m} {ms} p q = record {
    rest = λ need ws. rw (more need, assoc ws) (p.rest (count_of ms + need) (behind ws) ∙ q.rest need ws);
    free = λ need x ws. rw (more need, assoc ws) (p.free (count_of ms + need) x (behind ws) ∙ q.free need (x + size_of m) ws ∙ rw (sizes x));
    children = λ x ws. rw (
      assoc ws,
      p.child x (behind ws),
      p.rest 0 (behind ws),
      p.free 0 x (behind ws),
      rest_none (behind ws),
      free_none (behind ws) (x + size_of m),
      q.children (x + size_of m) ws,
    );
    rows = λ later need x ws. rw (
      more need,
      assoc ws,
      p.rows later (count_of ms + need) x (behind ws),
      q.rows later need (x + size_of m) ws,
      sizes x,
      later_join later (made_by number x m) (made_by_each number (x + size_of m) ms),
      append_assoc (later_rows later (made_by number x m)) (later_rows later (made_by_each number (x + size_of m) ms))
          (rows_in later need (x + (size_of m + sizes_of ms)) ws),
    );
  }
    where
      behind : List ℕ → List ℕ
      behind ws = code_of_each number ms ++ ws

      assoc : (ws : List ℕ) → (code_of number m ++ code_of_each number ms) ++ ws ≡ code_of number m ++ behind ws
      assoc ws = append_assoc (code_of number m) (code_of_each number ms) ws

      more : (need : ℕ) → suc (count_of ms) + need ≡ suc (count_of ms + need)
      more need = omega arith

      sizes : (x : ℕ) → x + size_of m + sizes_of ms ≡ x + (size_of m + sizes_of ms)
      sizes x = omega arith

  -- a word before the code of its operands spells a rule and the rules made inside it
  pub record Spelled (rule : ℕ → Rule) (inside : ℕ → List Rule) (size w : ℕ) (ms : Models) : Type 0 where
    pub high : 65536 ≤ w
    pub own_is : own_in w ≡ 1
    pub operands_are : operands_in w ≡ count_of ms
    pub size_is : size ≡ extra_in w + sizes_of ms
    pub own_row_lem : (y : ℕ) (ws : List ℕ) → own_row y w (code_of_each number ms ++ ws) ≡ row_for (rule y)
    pub inside_rows : (later : Bool) (y : ℕ) (ws : List ℕ) → due_of (extra_due later w) (extra_row y w (code_of_each number ms ++ ws))
        ++ later_rows later (made_by_each number (y + extra_in w) ms) ≡ later_rows later (inside y)

  pub plain : {w kind : ℕ} (ms : Models) → Plain w (count_of ms) kind → PassedEach ms → (rule : ℕ → Rule)
      → ((y : ℕ) → record { kind = kind; kids = children_of number y ms } ≡ row_for (rule y))
      → Spelled rule (λ y. made_by_each number y ms) (sizes_of ms) w ms
  plain {w} {kind} ms h p rule e = record {
    high = h.told.high;
    own_is = h.told.own_is;
    operands_are = h.told.operands_are;
    size_is = omega (arith, h.extra_is);
    own_row_lem = λ y ws. let z : y + 0 ≡ y = omega arith in
        rw (h.told.kind_is, h.told.operands_are, h.extra_is, z, p.children y ws, append-nil (children_of number y ms)) (e y);
    inside_rows = λ later y ws. let z : y + 0 ≡ y = omega arith in rw (extra_plain later w h.low, h.extra_is, z);
  }

  marked : {w s : ℕ} {m : Model} → Marked w s → Passed m → (rule extra : ℕ → Rule)
      → ((y : ℕ) → record { kind = 3 - s; kids = child_of number (suc y) m ∷ y ∷ [] } ≡ row_for (rule y))
      → ((y : ℕ) (ws : List ℕ) → record { kind = 4 * s; kids = children_in s (suc y) (code_of number m ++ ws) ++ [] } ≡ row_for (extra y))
      → Spelled rule (λ y. extra y ∷ made_by number (suc y) m) (suc (size_of m)) w (single m)
  marked {w} {s} {m} h p rule extra e f = record {
    high = h.told.high;
    own_is = h.told.own_is;
    operands_are = h.told.operands_are;
    size_is = omega (arith, h.extra_is);
    own_row_lem = λ y ws.
        let z : y + 1 ≡ suc y = omega arith in
        let o : suc y - 1 ≡ y = omega arith in
        rw (h.told.kind_is, h.told.operands_are, h.extra_is, z, p.child (suc y) ws, o) (e y);
    inside_rows = λ later y ws.
        let z : y + 1 ≡ suc y = omega arith in
        rw (extra_marked later w h.high, h.extra_is, h.star_is, z, f y ws) (due_later later (extra y) (made_by number (suc y) m));
  }

  abbrev pub Spells : Operator → ℕ → Models → Type 0
  Spells o w ms = Spelled (λ y. rule_of number y o) (λ y. made_inside number y o) (inside_of o) w ms

  -- the operators
  module _ (m : Model) (ms : Models) (short : length (code_of_each number (then m ms)) < 65536) (p : PassedEach (then m ms)) where
    row_word : (k : ℕ) → 1 ≤ k → k < 6 → Plain (word_of k (suc (count_of ms))) (suc (count_of ms)) (k - 1)
    row_word k some low = plain_word k (suc (count_of ms)) some low (omega (arith, count_few (then m ms)))

    either_spelled : Spells (either m ms) (word_of 4 (suc (count_of ms))) (then m ms)
    either_spelled = plain (then m ms) (row_word 4 (omega arith) (omega arith)) p (λ y. rule_of number y (either m ms)) (λ y. refl)

    in_order_spelled : Spells (in_order m ms) (word_of 3 (suc (count_of ms))) (then m ms)
    in_order_spelled = plain (then m ms) (row_word 3 (omega arith) (omega arith)) p (λ y. rule_of number y (in_order m ms)) (λ y. refl)

  module _ {m : Model} (p : Passed m) where
    repeated_spelled : Spells (repeated m) (word_of 5 1) (single m)
    repeated_spelled =
        let w = plain_word 5 1 (omega arith) (omega arith) (omega arith) in
        plain (single m) w (each_single p) (λ y. rule_of number y (repeated m)) (λ y. refl)

    optional_spelled : Spells (optional m) (word_of 6 1) (single m)
    optional_spelled = marked optional_word p (λ y. rule_of number y (optional m)) (λ y. empty) (λ y. refl) (λ y ws. refl)

    positive_spelled : Spells (positive m) (word_of 7 1) (single m)
    positive_spelled =
        let extra : ℕ → Rule = λ y. star (child_of number (suc y) m) in
        marked positive_word p (λ y. rule_of number y (positive m)) extra (λ y. refl) (λ y ws. rw (p.child (suc y) ws))

  -- an operator's code
  pub record Operated (o : Operator) : Type 0 where
    pub word : ℕ
    pub operands : Models
    pub code : code_of_operator number o ≡ word ∷ code_of_each number operands
    pub spelled : Spells o word operands
    pub each : PassedEach operands

  -- where it is an operand
  inner : {o : Operator} → Operated o → Passed (made o)
  inner {o} operated = record {
    rest = λ need ws. rw operated.code (ap (λ (n : ℕ). rest_of (behind ws) n) (needs need) ∙ p.rest need ws);
    free = λ need x ws. rw operated.code (
        ap (λ (n : ℕ). free_of (behind ws) n (x + own_in w + extra_in w)) (needs need)
        ∙ p.free need (x + own_in w + extra_in w) ws
        ∙ ap (λ (n : ℕ). free_of ws need n) (size x)
        );
    child = λ x ws. rw (operated.code, le-ltb w 65536 s.high);
    rows = λ later need x ws. rw (operated.code, next x) (rows later need x ws);
  }
    where
      w : ℕ
      w = operated.word

      ms : Models
      ms = operated.operands

      s : Spells o w ms
      s = operated.spelled

      p : PassedEach ms
      p = operated.each

      behind : List ℕ → List ℕ
      behind ws = code_of_each number ms ++ ws

      needs : (need : ℕ) → need + operands_in w ≡ count_of ms + need
      needs need = omega (arith, s.operands_are)

      next : (x : ℕ) → suc x ≡ x + own_in w
      next x = omega (arith, s.own_is)

      size : (x : ℕ) → x + own_in w + extra_in w + sizes_of ms ≡ x + suc (inside_of o)
      size x = omega (arith, s.own_is, s.size_is)

      rows : (later : Bool) (need x : ℕ) (ws : List ℕ) → rows_in later (suc need) x (w ∷ behind ws)
          ≡ later_rows later (rule_of number (x + own_in w) o ∷ made_inside number (x + own_in w) o) ++ rows_in later need (x + suc (inside_of o)) ws
      rows later need x ws =
          let y = x + own_in w in
          rw (
            own_inner later need w s.high,
            s.own_row_lem y ws,
            needs need,
            p.rows later need (y + extra_in w) ws,
            size x,
            regroup (due_of later (row_for (rule_of number y o))) (due_of (extra_due later w) (extra_row y w (behind ws)))
                (later_rows later (made_by_each number (y + extra_in w) ms)) (rows_in later need (x + suc (inside_of o)) ws),
            s.inside_rows later y ws,
            due_later later (rule_of number y o) (made_inside number y o),
          )

  -- a name
  pub name_passed : (n : List ℕ) → number n < 65536 → Passed (element n)
  name_passed n l = record {
    rest = λ need ws. ap (λ (k : ℕ). rest_of ws k) (needs need);
    free = λ need x ws. ap (λ (k : ℕ). free_of ws k (x + own_in w + extra_in w)) (needs need) ∙ ap (λ (k : ℕ). free_of ws need k) (stays x);
    child = λ x ws. rw (lt-ltb w 65536 (omega arith)) (omega arith);
    rows = rows;
  }
    where
      w : ℕ
      w = word_of 0 (number n)

      told : Named w
      told = named_word w (omega arith)

      needs : (need : ℕ) → need + operands_in w ≡ need
      needs need = omega (arith, told.operands_are)

      stays : (x : ℕ) → x + own_in w + extra_in w ≡ x + 0
      stays x = omega (arith, told.own_is, told.extra_is)

      rows : (later : Bool) (need x : ℕ) (ws : List ℕ) → rows_in later (suc need) x (w ∷ ws) ≡ later_rows later [] ++ rows_in later need (x + 0) ws
      rows true need x ws = rw (told.own_due_lem true (suc need), told.extra_due_lem true, needs need, stays x)
      rows false need x ws = rw (told.own_due_lem false (suc need), told.extra_due_lem false, needs need, stays x)

  -- every model
  module _ (low : (n : List ℕ) → number n < 65536) where
    mutual
      passed : (m : Model) → length (code_of number m) ≤ 65535 → Passed m
      passed (element n) l = name_passed n (low n)
      passed (made o) l = inner (operated o l)

      pub operated : (o : Operator) → length (code_of_operator number o) ≤ 65535 → Operated o
      operated (either m ms) l =
          let sum = length-append (code_of number m) (code_of_each number ms) in
          let p = each_then (passed m (omega arith)) (passed_each ms (omega arith)) in
          record { word = word_of 4 (suc (count_of ms)); operands = then m ms; code = refl; spelled = either_spelled m ms (omega arith) p; each = p }
      operated (in_order m ms) l =
          let sum = length-append (code_of number m) (code_of_each number ms) in
          let p = each_then (passed m (omega arith)) (passed_each ms (omega arith)) in
          record { word = word_of 3 (suc (count_of ms)); operands = then m ms; code = refl; spelled = in_order_spelled m ms (omega arith) p; each = p }
      operated (optional m) l =
          let p = passed m (omega arith) in
          record { word = word_of 6 1; operands = single m; code = refl; spelled = optional_spelled p; each = each_single p }
      operated (repeated m) l =
          let p = passed m (omega arith) in
          record { word = word_of 5 1; operands = single m; code = refl; spelled = repeated_spelled p; each = each_single p }
      operated (positive m) l =
          let p = passed m (omega arith) in
          record { word = word_of 7 1; operands = single m; code = refl; spelled = positive_spelled p; each = each_single p }

      passed_each : (ms : Models) → length (code_of_each number ms) ≤ 65535 → PassedEach ms
      passed_each (single m) l = each_single (passed m l)
      passed_each (then m ms) l =
          let sum = length-append (code_of number m) (code_of_each number ms) in
          each_then (passed m (omega arith)) (passed_each ms (omega arith))
