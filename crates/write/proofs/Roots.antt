-- The code of a list of declarations says the rules of their table. Assumes nothing.
use Rattle.std.proofs.Common.{ℕ, suc, ◌+◌, ◌≤◌, ◌<◌, ◌≡◌, refl, Bool, true, false, not, cond, List, [], ◌∷◌, ◌++◌, map, arith, length, length-append}
use mathlib.Core.List.{map-append}
use lib.ListN.{length-map}
use Rattle.grammar.specs.Tree.{Content, is-empty, is_text, is_any, is_mixed, is_children, Declaration}
use Rattle.model.specs.Model.{Model, Models, element, made, single, model_of}
use Rattle.model.specs.Tables.{Rule, empty, text, sequence, sizes_of, made_by_each, rule_of_model, made_in_model, rule_of_content, made_in_content}
use Rattle.model.specs.Tables.{declared_from, made_from, names_of, number_of, number_in, same_name, rules_of}
use Rattle.model.proofs.Placed.{inside_size}
use Rattle.write.specs.Steps.Code.{word_of, count_of, code_of_each, code_of_model, code_of_content, code_of_all, Coded}
use Rattle.write.specs.Steps.Reading.{Row, operands_in, extra_in, own_row, extra_row, extra_due, due_of, rows_in}
use Rattle.write.proofs.Operators.{Plain, plain_word, own_root, extra_plain}
use Rattle.write.proofs.Models.{row_for, later_rows, regroup, PassedEach, each_single, Spelled, plain, name_passed, operated}

-- the rows that are due of a declaration: its own at first, those made inside later
abbrev root_rows : Bool → Rule → List Rule → List Row
root_rows later r rs = due_of (not later) (row_for r) ++ later_rows later rs

-- content without children
leaf_rows : {w kind : ℕ} → Plain w 0 kind → (r : Rule) → record { kind = kind; kids = [] } ≡ row_for r → (later : Bool) (x : ℕ) (ws : List ℕ)
    → rows_in later 0 x (w ∷ ws) ≡ root_rows later r [] ++ rows_in later 0 (x + 0) ws
leaf_rows {w} {kind} h r e later x ws = rw (
  own_root later w h.told.high,
  extra_plain later w h.low,
  own,
  h.told.operands_are,
  h.extra_is,
  none later,
)
  where
    own : own_row x w ws ≡ row_for r
    own = rw (h.told.kind_is, h.told.operands_are, h.extra_is) e

    none : (later : Bool) → later_rows later [] ≡ []
    none true = refl
    none false = refl

empty_rows : (later : Bool) (x : ℕ) (ws : List ℕ) → rows_in later 0 x (word_of 1 0 ∷ ws) ≡ root_rows later empty [] ++ rows_in later 0 (x + 0) ws
empty_rows = leaf_rows (plain_word 1 0 (omega arith) (omega arith) (omega arith)) empty refl

text_rows : (later : Bool) (x : ℕ) (ws : List ℕ) → rows_in later 0 x (word_of 2 0 ∷ ws) ≡ root_rows later text [] ++ rows_in later 0 (x + 0) ws
text_rows = leaf_rows (plain_word 2 0 (omega arith) (omega arith) (omega arith)) text refl

module _ (number : List ℕ → ℕ) where
  root_rows_lem : {rule : ℕ → Rule} {inside : ℕ → List Rule} {size w : ℕ} {ms : Models} → Spelled number rule inside size w ms → PassedEach number ms
      → ((x : ℕ) → length (inside x) ≡ size) → (later : Bool) (x : ℕ) (ws : List ℕ)
      → rows_in later 0 x (w ∷ (code_of_each number ms ++ ws)) ≡ root_rows later (rule x) (inside x) ++ rows_in later 0 (x + length (inside x)) ws
  root_rows_lem {rule} {inside} {size} {w} {ms} s p sized later x ws = rw (
    own_root later w s.high,
    s.own_row_lem x ws,
    needs,
    p.rows later 0 (x + extra_in w) ws,
    sizes,
    regroup (due_of (not later) (row_for (rule x))) (due_of (extra_due later w) (extra_row x w (code_of_each number ms ++ ws)))
        (later_rows later (made_by_each number (x + extra_in w) ms)) (rows_in later 0 (x + length (inside x)) ws),
    s.inside_rows later x ws,
  )
    where
      needs : operands_in w ≡ count_of ms + 0
      needs = omega (arith, s.operands_are)

      sizes : x + extra_in w + sizes_of ms ≡ x + length (inside x)
      sizes = omega (arith, s.size_is, sized x)

  module _ (low : (n : List ℕ) → number n < 65536) where
    model_rows : (m : Model) → length (code_of_model number m) ≤ 65535 → (later : Bool) (x : ℕ) (ws : List ℕ)
        → rows_in later 0 x (code_of_model number m ++ ws)
        ≡ root_rows later (rule_of_model number x m) (made_in_model number x m) ++ rows_in later 0 (x + length (made_in_model number x m)) ws
    model_rows (element n) l later x ws =
        let p = each_single number (name_passed number n (low n)) in
        let w = plain_word 3 1 (omega arith) (omega arith) (omega arith) in
        let s = plain number (single (element n)) w p (λ y. sequence (number n ∷ [])) (λ y. refl) in
        root_rows_lem s p (λ y. refl) later x ws
    model_rows (made o) l later x ws =
        let h = operated number low o l in
        rw h.code (root_rows_lem h.spelled h.each (λ y. inside_size number o y) later x ws)

    content_rows : (c : Content) → length (code_of_content number c) ≤ 65535 → (later : Bool) (x : ℕ) (ws : List ℕ)
        → rows_in later 0 x (code_of_content number c ++ ws)
        ≡ root_rows later (rule_of_content number x c) (made_in_content number x c) ++ rows_in later 0 (x + length (made_in_content number x c)) ws
    content_rows is-empty l = empty_rows
    content_rows is_text l = text_rows
    content_rows (is_any at) l = empty_rows
    content_rows (is_mixed at us) l = text_rows
    content_rows (is_children p) l = model_rows (model_of p) l

    declared_rows : (ds : List Declaration) (x : ℕ) → length (code_of_all number ds) ≤ 65535
        → rows_in false 0 x (code_of_all number ds) ≡ map row_for (declared_from number x ds)
    declared_rows [] x l = refl
    declared_rows (d ∷ ds) x l =
        let sum = length-append (code_of_content number d.content) (code_of_all number ds) in
        let next = x + length (made_in_content number x d.content) in
        rw (content_rows d.content (omega arith) false x (code_of_all number ds), declared_rows ds next (omega arith))

    made_rows : (ds : List Declaration) (x : ℕ) → length (code_of_all number ds) ≤ 65535
        → rows_in true 0 x (code_of_all number ds) ≡ map row_for (made_from number x ds)
    made_rows [] x l = refl
    made_rows (d ∷ ds) x l =
        let sum = length-append (code_of_content number d.content) (code_of_all number ds) in
        let inside = made_in_content number x d.content in
        rw (
          content_rows d.content (omega arith) true x (code_of_all number ds),
          made_rows ds (x + length inside) (omega arith),
          map-append row_for inside (made_from number (x + length inside) ds),
        )

number_most : (names : List (List ℕ)) (n : List ℕ) → number_in names n ≤ length names
unfolding number_in
number_most [] n = omega arith
number_most (m ∷ names) n = go (same_name m n) (number_most names n)
  where
    go : (t : Bool) → number_in names n ≤ length names → cond t 0 (suc (number_in names n)) ≤ suc (length names)
    go true h = omega arith
    go false h = omega arith

-- the rows of both passes are the rules
pub rows_are : {ds : List Declaration} {code : List ℕ} → Coded ds code
    → rows_in false 0 (length ds) code ++ rows_in true 0 (length ds) code ≡ map row_for (rules_of ds)
unfolding rules_of
rows_are {ds} {code} h =
    let number = number_of ds in
    let names = length-map ds (λ (d : Declaration). d.named) in
    let few : (n : List ℕ) → number n < 65536 = λ n. omega (arith, number_most (names_of ds) n, names, h.few) in
    let short : length (code_of_all number ds) ≤ 65535 = rw (← h.is) (omega (arith, h.short)) in
    rw (
      h.is,
      declared_rows number few ds (length ds) short,
      made_rows number few ds (length ds) short,
      map-append row_for (declared_from number (length ds) ds) (made_from number (length ds) ds),
    )
