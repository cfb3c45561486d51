-- The code of declarations is no longer than they and the child entries of their table are together: each of its words is the content of a
-- declaration, or a child entry of the type of its operator. Assumes nothing.
use Rattle.std.proofs.Common.{ℕ, suc, ◌+◌, ◌≤◌, ◌≡◌, refl, ap, List, [], ◌∷◌, ◌++◌, arith, length, length-append}
use Rattle.grammar.specs.Tree.{Content, is-empty, is_text, is_any, is_mixed, is_children, Declaration}
use Rattle.model.specs.Model.{Model, Models, Operator, element, made, either, in_order, optional, repeated, positive, single, then, model_of}
use Rattle.model.specs.Tables.{Rule, size_of, kids_of, kids_of_all, children_of, rule_of, made_by, made_inside, made_by_each, rule_of_model, made_in_model}
use Rattle.model.specs.Tables.{rule_of_content, made_in_content, declared_from, made_from, number_of, rules_of}
use Rattle.model.proofs.Words.{kids_split}
use Rattle.write.specs.Steps.Code.{count_of, code_of, code_of_operator, code_of_each, code_of_model, code_of_content, code_of_all}

-- how many child entries these rules have
abbrev entries_of : List Rule → ℕ
entries_of rs = length (kids_of_all rs)

entries_join : (rs ss : List Rule) → entries_of (rs ++ ss) ≡ entries_of rs + entries_of ss
entries_join rs ss = rw (kids_split rs ss) (length-append (kids_of_all rs) (kids_of_all ss))

entries_more : (r : Rule) (rs : List Rule) → entries_of (r ∷ rs) ≡ length (kids_of r) + entries_of rs
entries_more r rs = length-append (kids_of r) (kids_of_all rs)

-- the code's numbering and the table's may differ, and so may the number from which made types are numbered: no count depends on them
module _ (number other : List ℕ → ℕ) where
  children_count : (ms : Models) (x : ℕ) → length (children_of other x ms) ≡ count_of ms
  children_count (single m) x = refl
  children_count (then m ms) x = ap suc (children_count ms (x + size_of m))

  -- a group is a word of its own, and in its type an entry for each of its models
  group_short : (m : Model) (ms : Models) (x : ℕ) → length (code_of number m) ≤ 1 + entries_of (made_by other x m)
      → length (code_of_each number ms) ≤ count_of ms + entries_of (made_by_each other (x + size_of m) ms)
      → length (code_of_operator number (either m ms)) ≤ 1 + entries_of (rule_of other x (either m ms) ∷ made_inside other x (either m ms))
  group_short m ms x first rest = omega (
    arith,
    length-append (code_of number m) (code_of_each number ms),
    entries_more (rule_of other x (either m ms)) (made_inside other x (either m ms)),
    entries_join (made_by other x m) (made_by_each other (x + size_of m) ms),
    children_count ms (x + size_of m),
  )

  -- a model has an entry in the type above it, and those of the types it makes
  mutual
    model_short : (m : Model) (x : ℕ) → length (code_of number m) ≤ 1 + entries_of (made_by other x m)
    model_short (element n) x = omega arith
    model_short (made o) x = operator_short o (suc x)

    operator_short : (o : Operator) (x : ℕ) → length (code_of_operator number o) ≤ 1 + entries_of (rule_of other x o ∷ made_inside other x o)
    operator_short (either m ms) x = group_short m ms x (model_short m x) (each_short ms (x + size_of m))
    operator_short (in_order m ms) x = group_short m ms x (model_short m x) (each_short ms (x + size_of m))
    operator_short (optional m) x = omega (arith, model_short m (suc x))
    operator_short (repeated m) x = omega (arith, model_short m x)
    operator_short (positive m) x = omega (arith, model_short m (suc x))

    each_short : (ms : Models) (x : ℕ) → length (code_of_each number ms) ≤ count_of ms + entries_of (made_by_each other x ms)
    each_short (single m) x = model_short m x
    each_short (then m ms) x = omega (
      arith,
      length-append (code_of number m) (code_of_each number ms),
      entries_join (made_by other x m) (made_by_each other (x + size_of m) ms),
      model_short m x,
      each_short ms (x + size_of m),
    )

  whole_short : (m : Model) (x : ℕ) → length (code_of_model number m) ≤ 1 + entries_of (rule_of_model other x m ∷ made_in_model other x m)
  whole_short (element n) x = omega arith
  whole_short (made o) x = operator_short o x

  content_short : (c : Content) (x : ℕ) → length (code_of_content number c) ≤ 1 + entries_of (rule_of_content other x c ∷ made_in_content other x c)
  content_short is-empty x = omega arith
  content_short is_text x = omega arith
  content_short (is_any at) x = omega arith
  content_short (is_mixed at us) x = omega arith
  content_short (is_children p) x = whole_short (model_of p) x

  all_short : (ds : List Declaration) (x : ℕ)
      → length (code_of_all number ds) ≤ length ds + (entries_of (declared_from other x ds) + entries_of (made_from other x ds))
  all_short [] x = omega arith
  all_short (d ∷ ds) x =
      let r = rule_of_content other x d.content in
      let rs = made_in_content other x d.content in
      let y = x + length rs in
      omega (
        arith,
        length-append (code_of_content number d.content) (code_of_all number ds),
        entries_more r rs,
        entries_more r (declared_from other y ds),
        entries_join rs (made_from other y ds),
        content_short d.content x,
        all_short ds y,
      )

pub code_short : (number : List ℕ → ℕ) (ds : List Declaration) → length (code_of_all number ds) ≤ length ds + length (kids_of_all (rules_of ds))
unfolding rules_of
code_short number ds =
    let x = length ds in
    omega (arith, all_short number (number_of ds) ds x, entries_join (declared_from (number_of ds) x ds) (made_from (number_of ds) x ds))
