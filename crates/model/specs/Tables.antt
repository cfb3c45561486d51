-- "The outermost operator gives the declared type's rule (a bare name: a sequence of one; `(#PCDATA)*`: text); each inner group, `*`, `?` and `+`
-- becomes a made type: `a?` a choice of a and a made empty type, `a+` a sequence of a and a made star of a. Declared types come first, the first one
-- being the root; made types follow by where their particle starts, outer before inner, a mark's empty or star before its operand" (document 02,
-- order 3), as a table of document 01. Assumes nothing.
use Rattle.std.specs.Prelude.{ℕ, suc, ◌+◌, ◌-◌, ◌*◌, Bool, true, false, ◌&&◌, cond, List, [], ◌∷◌, ◌++◌, map, eqb, length}
use Rattle.table.specs.Privilege.{gap_in}
use Rattle.grammar.specs.Tree.{Content, is-empty, is_text, is_any, is_mixed, is_children, Declaration}
use Rattle.model.specs.Model.{Model, Models, Operator, element, made, either, in_order, optional, repeated, positive, single, then, model_of}

-- a type's rule, with the numbers of its children
pub data Rule : Type 0 where
  empty text : Rule
  sequence choice : List ℕ → Rule
  star : ℕ → Rule

abbrev pub same_name : List ℕ → List ℕ → Bool
same_name [] [] = true
same_name [] (b ∷ y) = false
same_name (a ∷ x) [] = false
same_name (a ∷ x) (b ∷ y) = eqb a b && same_name x y

-- the number of the first of these names that is n, and how many there are where none is
unfoldable pub number_in : List (List ℕ) → List ℕ → ℕ
number_in [] n = 0
number_in (m ∷ ms) n = cond (same_name m n) 0 (suc (number_in ms n))

-- how many types a model makes where it is a child, and how many an operator makes beside its own
abbrev mutual
  pub size_of : Model → ℕ
  size_of (element n) = 0
  size_of (made o) = suc (inside_of o)

  pub inside_of : Operator → ℕ
  inside_of (either m ms) = size_of m + sizes_of ms
  inside_of (in_order m ms) = size_of m + sizes_of ms
  inside_of (optional m) = suc (size_of m)
  inside_of (repeated m) = size_of m
  inside_of (positive m) = suc (size_of m)

  pub sizes_of : Models → ℕ
  sizes_of (single m) = size_of m
  sizes_of (then m ms) = size_of m + sizes_of ms

-- `number` gives the number of a declared name, and x is the first number that is free
module _ (number : List ℕ → ℕ) where
  -- the child that a model is: a declared type, or the first type it makes
  abbrev pub child_of : ℕ → Model → ℕ
  child_of x (element n) = number n
  child_of x (made o) = x

  abbrev pub children_of : ℕ → Models → List ℕ
  children_of x (single m) = child_of x m ∷ []
  children_of x (then m ms) = child_of x m ∷ children_of (x + size_of m) ms

  -- the rule of a type with this operator, the types made inside it numbered from x
  abbrev pub rule_of : ℕ → Operator → Rule
  rule_of x (either m ms) = choice (child_of x m ∷ children_of (x + size_of m) ms)
  rule_of x (in_order m ms) = sequence (child_of x m ∷ children_of (x + size_of m) ms)
  rule_of x (optional m) = choice (child_of (suc x) m ∷ x ∷ [])
  rule_of x (repeated m) = star (child_of x m)
  rule_of x (positive m) = sequence (child_of (suc x) m ∷ x ∷ [])

  -- the rules of the made types, in order
  abbrev mutual
    pub made_by : ℕ → Model → List Rule
    made_by x (element n) = []
    made_by x (made o) = rule_of (suc x) o ∷ made_inside (suc x) o

    pub made_inside : ℕ → Operator → List Rule
    made_inside x (either m ms) = made_by x m ++ made_by_each (x + size_of m) ms
    made_inside x (in_order m ms) = made_by x m ++ made_by_each (x + size_of m) ms
    made_inside x (optional m) = empty ∷ made_by (suc x) m
    made_inside x (repeated m) = made_by x m
    made_inside x (positive m) = star (child_of (suc x) m) ∷ made_by (suc x) m

    pub made_by_each : ℕ → Models → List Rule
    made_by_each x (single m) = made_by x m
    made_by_each x (then m ms) = made_by x m ++ made_by_each (x + size_of m) ms

  -- a declared type's own rule: its outermost operator, a bare name being a sequence of one; and the types it makes
  abbrev pub rule_of_model : ℕ → Model → Rule
  rule_of_model x (element n) = sequence (number n ∷ [])
  rule_of_model x (made o) = rule_of x o

  abbrev pub made_in_model : ℕ → Model → List Rule
  made_in_model x (element n) = []
  made_in_model x (made o) = made_inside x o

  -- ANY and mixed content, which 21 refuses, count as empty and text
  abbrev pub rule_of_content : ℕ → Content → Rule
  rule_of_content x is-empty = empty
  rule_of_content x is_text = text
  rule_of_content x (is_any p) = empty
  rule_of_content x (is_mixed p ns) = text
  rule_of_content x (is_children p) = rule_of_model x (model_of p)

  abbrev pub made_in_content : ℕ → Content → List Rule
  made_in_content x is-empty = []
  made_in_content x is_text = []
  made_in_content x (is_any p) = []
  made_in_content x (is_mixed p ns) = []
  made_in_content x (is_children p) = made_in_model x (model_of p)

  -- the rules of the declared types, and those of the made ones
  abbrev pub declared_from : ℕ → List Declaration → List Rule
  declared_from x [] = []
  declared_from x (d ∷ ds) = rule_of_content x d.content ∷ declared_from (x + length (made_in_content x d.content)) ds

  abbrev pub made_from : ℕ → List Declaration → List Rule
  made_from x [] = []
  made_from x (d ∷ ds) = made_in_content x d.content ++ made_from (x + length (made_in_content x d.content)) ds

abbrev pub names_of : List Declaration → List (List ℕ)
names_of ds = map (λ d. d.named) ds

-- the number of a declared name
abbrev pub number_of : List Declaration → List ℕ → ℕ
number_of ds n = number_in (names_of ds) n

-- the rules of the table of these declarations
unfoldable pub rules_of : List Declaration → List Rule
rules_of ds = declared_from (number_of ds) (length ds) ds ++ made_from (number_of ds) (length ds) ds

-- a rule's kind, children and number of privileges in a format, by document 01's numbers and order 9's
abbrev pub kind_of : Rule → ℕ
kind_of empty = 0
kind_of text = 1
kind_of (sequence ks) = 2
kind_of (choice ks) = 3
kind_of (star k) = 4

abbrev pub kids_of : Rule → List ℕ
kids_of empty = []
kids_of text = []
kids_of (sequence ks) = ks
kids_of (choice ks) = ks
kids_of (star k) = k ∷ []

abbrev pub privileges_in : ℕ → Rule → ℕ
privileges_in format empty = 0
privileges_in format text = 1
privileges_in format (sequence ks) = 0
privileges_in format (choice ks) = length ks * (length ks - gap_in format)
privileges_in format (star k) = 3 - gap_in format

abbrev pub kids_of_all : List Rule → List ℕ
kids_of_all [] = []
kids_of_all (r ∷ rs) = kids_of r ++ kids_of_all rs

abbrev pub privileges_of_all : ℕ → List Rule → ℕ
privileges_of_all format [] = 0
privileges_of_all format (r ∷ rs) = privileges_in format r + privileges_of_all format rs

-- three words for each type, the first child of the first one being at index k
abbrev pub records_from : ℕ → List Rule → List ℕ
records_from k [] = []
records_from k (r ∷ rs) = kind_of r ∷ length (kids_of r) ∷ k ∷ records_from (k + length (kids_of r)) rs

-- the words of a table with these rules
unfoldable pub words_of : ℕ → List Rule → List ℕ
words_of format rs =
    format ∷ (8 + 3 * length rs + length (kids_of_all rs)) ∷ length rs ∷ 0 ∷ 8 ∷ length (kids_of_all rs) ∷ (8 + 3 * length rs) ∷ privileges_of_all format rs
    ∷ (records_from 0 rs ++ kids_of_all rs)

-- the table of a list of declarations
abbrev pub table_of : ℕ → List Declaration → List ℕ
table_of format ds = words_of format (rules_of ds)
