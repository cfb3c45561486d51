-- Where every used name is declared, the children of a table of declarations are types of it. Assumes nothing.
use Prim.Native.Nat.{ℕ, zero, suc, ◌+◌, ◌≤◌, ◌<◌}
use mathlib.Core.List.{List, [], ◌∷◌, ◌++◌}
use native.Mathlib.Omega.{arith}
use lib.ListN.{length, get_or, length-append}
use Rattle.table.specs.Check.{Inside}
use Rattle.grammar.specs.Tree.{Mark, once, maybe, any, several, Particle, Particles, name, choice, sequence, last, more, uses_in, uses_in_all}
use Rattle.grammar.specs.Tree.{Content, is-empty, is_text, is_any, is_mixed, is_children, uses_of, Declaration, Nth, first, later}
use Rattle.model.specs.Names.{NeverDeclared}
use Rattle.model.specs.Model.{Model, Models, Operator, element, made, single, then, marked, either_of, in_order_of, model_of, models_of}
use Rattle.model.specs.Tables.{Rule, empty, size_of, inside_of, sizes_of, kids_of, child_of, children_of, rule_of, made_by, made_inside, made_by_each}
use Rattle.model.specs.Tables.{rule_of_model, made_in_model, rule_of_content, made_in_content, declared_from, made_from, number_of, rules_of}
use Rattle.model.proofs.Placed.{inside_size, rules_length}
use Rattle.model.proofs.Uses.{Known, known_first, known_rest, all_known}

-- numbers below e, and rules whose children are
abbrev Low : ℕ → List ℕ → Type 0
Low e [] = Unit {0}
Low e (x ∷ xs) = (x < e) × Low e xs

abbrev Lows : ℕ → List Rule → Type 0
Lows e [] = Unit {0}
Lows e (r ∷ rs) = Low e (kids_of r) × Lows e rs

inside : (e : ℕ) (xs : List ℕ) → Low e xs → Inside e xs
inside e [] h i l = absurd (omega arith)
inside e (x ∷ xs) h zero l = h.0
inside e (x ∷ xs) h (suc i) l = inside e xs h.1 i (omega arith)

inside_each : (e : ℕ) (rs : List Rule) → Lows e rs → (t : ℕ) → t < length rs → Inside e (kids_of (get_or rs t empty))
inside_each e [] h t l = absurd (omega arith)
inside_each e (r ∷ rs) h zero l = inside e (kids_of r) h.0
inside_each e (r ∷ rs) h (suc t) l = inside_each e rs h.1 t (omega arith)

lows_join : (e : ℕ) (rs ss : List Rule) → Lows e rs → Lows e ss → Lows e (rs ++ ss)
lows_join e [] ss g h = h
lows_join e (r ∷ rs) ss g h = (g.0, lows_join e rs ss g.1 h)

module _ (number : List ℕ → ℕ) (declared e : ℕ) (all : declared ≤ e) where
  -- a model as a child, and as the content of a type: where what it makes is numbered below e, so are all children
  record LowModel (m : Model) : Type 0 where
    child : (x : ℕ) → x + size_of m ≤ e → (child_of number x m < e) × Lows e (made_by number x m)
    whole : (x : ℕ) → x + length (made_in_model number x m) ≤ e → Lows e (rule_of_model number x m ∷ made_in_model number x m)

  record LowGroup (ms : Models) : Type 0 where
    as_choice : LowModel (either_of ms)
    as_sequence : LowModel (in_order_of ms)
    each : (x : ℕ) → x + sizes_of ms ≤ e → Low e (children_of number x ms) × Lows e (made_by_each number x ms)

  made_low : {o : Operator} → ((x : ℕ) → x + inside_of o ≤ e → Lows e (rule_of number x o ∷ made_inside number x o)) → LowModel (made o)
  made_low {o} f = record { child = λ x l. (omega arith, f (suc x) (omega arith)); whole = λ x l. f x (omega (arith, inside_size number o x)) }

  element_low : {n : List ℕ} → number n < declared → LowModel (element n)
  element_low k = record { child = λ x l. (omega arith, tt); whole = λ x l. (omega arith, tt) }

  marked_low : (k : Mark) {m : Model} → LowModel m → LowModel (marked k m)
  marked_low once a = a
  marked_low maybe a = made_low (λ x l. let c = a.child (suc x) (omega arith) in (omega arith, (tt, c.1)))
  marked_low any a = made_low (λ x l. let c = a.child x l in (omega arith, c.1))
  marked_low several a = made_low (λ x l. let c = a.child (suc x) (omega arith) in (omega arith, (omega arith, c.1)))

  last_low : {m : Model} → LowModel m → LowGroup (single m)
  last_low a = record { as_choice = a; as_sequence = a; each = λ x l. let c = a.child x l in (omega arith, c.1) }

  more_low : {m : Model} {ms : Models} → LowModel m → LowGroup ms → LowGroup (then m ms)
  more_low {m} {ms} a b = record { as_choice = made_low each; as_sequence = made_low each; each = each }
    where
      each : (x : ℕ) → x + (size_of m + sizes_of ms) ≤ e → Low e (children_of number x (then m ms)) × Lows e (made_by_each number x (then m ms))
      each x l =
          let c = a.child x (omega arith) in
          let d = b.each (x + size_of m) (omega arith) in
          ((c.0, d.0), lows_join e (made_by number x m) _ c.1 d.1)

  mutual
    low : (p : Particle) → Known number declared (uses_in p) → LowModel (model_of p)
    low (name at n k) u = marked_low k (element_low (u.below 0 (record { place = at; bytes = n }) first))
    low (choice at ps k) u = marked_low k (lows ps u).as_choice
    low (sequence at ps k) u = marked_low k (lows ps u).as_sequence

    lows : (ps : Particles) → Known number declared (uses_in_all ps) → LowGroup (models_of ps)
    lows (last p) u = last_low (low p u)
    lows (more p ps) u = more_low (low p (known_first p ps u)) (lows ps (known_rest p ps u))

  content_low : (c : Content) → Known number declared (uses_of c) → (x : ℕ) → x + length (made_in_content number x c) ≤ e
      → Lows e (rule_of_content number x c ∷ made_in_content number x c)
  content_low is-empty u x l = (tt, tt)
  content_low is_text u x l = (tt, tt)
  content_low (is_any at) u x l = (tt, tt)
  content_low (is_mixed at us) u x l = (tt, tt)
  content_low (is_children p) u x l = (low p u).whole x l

  declarations_low : (ds : List Declaration) → ((i : ℕ) (d : Declaration) → Nth ds i d → Known number declared (uses_of d.content))
      → (x : ℕ) → x + length (made_from number x ds) ≤ e → Lows e (declared_from number x ds) × Lows e (made_from number x ds)
  declarations_low [] u x l = (tt, tt)
  declarations_low (d ∷ ds) u x l =
      let c = made_in_content number x d.content in
      let n = length-append c (made_from number (x + length c) ds) in
      let g = content_low d.content (u 0 d first) x (omega arith) in
      let h = declarations_low ds (λ i b n. u (suc i) b (later n)) (x + length c) (omega arith) in
      ((g.0, h.0), lows_join e c _ g.1 h.1)

pub children_inside : (ds : List Declaration) → ((k : ℕ) → ¬ NeverDeclared ds k) → (t : ℕ) → t < length (rules_of ds)
    → Inside (length (rules_of ds)) (kids_of (get_or (rules_of ds) t empty))
unfolding rules_of
children_inside ds named = inside_each e (rules_of ds) (lows_join e declared_rules made_rules both.0 both.1)
  where
    number : List ℕ → ℕ
    number = number_of ds

    declared_rules : List Rule
    declared_rules = declared_from number (length ds) ds

    made_rules : List Rule
    made_rules = made_from number (length ds) ds

    e : ℕ
    e = length (rules_of ds)

    both : Lows e declared_rules × Lows e made_rules
    both =
        let size = rules_length ds in
        declarations_low number (length ds) e (omega arith) ds (λ i d n. all_known ds named n) (length ds) (omega arith)
