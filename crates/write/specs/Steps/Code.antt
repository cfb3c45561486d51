-- What stands between the text and its table: the contents of the declarations one after another, each model in the order of its types, a word for each
-- operator and each name. Assumes nothing.
use Rattle.std.specs.Prelude.{ℕ, suc, ◌+◌, ◌*◌, ◌≤◌, ◌≡◌, List, [], ◌∷◌, ◌++◌, length, set, take}
use Rattle.grammar.specs.Tree.{Content, is-empty, is_text, is_any, is_mixed, is_children, Declaration}
use Rattle.model.specs.Tables.{number_of, kids_of_all, rules_of, table_of}
use Rattle.model.specs.Model.{Model, Models, Operator, element, made, either, in_order, optional, repeated, positive, single, then, model_of}

-- an operator's kind and the number of its operands; a name is of kind 0, with its number
abbrev pub word_of : ℕ → ℕ → ℕ
word_of kind n = 65536 * kind + n

abbrev pub count_of : Models → ℕ
count_of (single m) = 1
count_of (then m ms) = suc (count_of ms)

module _ (number : List ℕ → ℕ) where
  abbrev mutual
    pub code_of : Model → List ℕ
    code_of (element n) = word_of 0 (number n) ∷ []
    code_of (made o) = code_of_operator o

    pub code_of_operator : Operator → List ℕ
    code_of_operator (either m ms) = word_of 4 (suc (count_of ms)) ∷ (code_of m ++ code_of_each ms)
    code_of_operator (in_order m ms) = word_of 3 (suc (count_of ms)) ∷ (code_of m ++ code_of_each ms)
    code_of_operator (optional m) = word_of 6 1 ∷ code_of m
    code_of_operator (repeated m) = word_of 5 1 ∷ code_of m
    code_of_operator (positive m) = word_of 7 1 ∷ code_of m

    pub code_of_each : Models → List ℕ
    code_of_each (single m) = code_of m
    code_of_each (then m ms) = code_of m ++ code_of_each ms

  -- a bare name is a sequence of one
  abbrev pub code_of_model : Model → List ℕ
  code_of_model (element n) = word_of 3 1 ∷ word_of 0 (number n) ∷ []
  code_of_model (made o) = code_of_operator o

  abbrev pub code_of_content : Content → List ℕ
  code_of_content is-empty = word_of 1 0 ∷ []
  code_of_content is_text = word_of 2 0 ∷ []
  code_of_content (is_any at) = word_of 1 0 ∷ []
  code_of_content (is_mixed at us) = word_of 2 0 ∷ []
  code_of_content (is_children p) = code_of_model (model_of p)

  abbrev pub code_of_all : List Declaration → List ℕ
  code_of_all [] = []
  code_of_all (d ∷ ds) = code_of_content d.content ++ code_of_all ds

-- the code of these declarations, which the buffer holds whole
pub record Coded (ds : List Declaration) (code : List ℕ) : Type 0 where
  pub is : code ≡ code_of_all (number_of ds) ds
  pub few : length ds ≤ 256
  pub short : length code ≤ 1280

-- how many types and child entries these declarations make
pub record Counted (ds : List Declaration) (types kids : ℕ) : Type 0 where
  pub types_are : types ≡ length (rules_of ds)
  pub kids_are : kids ≡ length (kids_of_all (rules_of ds))

-- their table, but for its word 7, which is left 0
abbrev pub untotalled : List Declaration → List ℕ
untotalled ds = set (table_of 1 ds) 7 0

-- the table was written to the front of a run of 1,800 words
pub record Written (code after : List ℕ) (declared types kids : ℕ) : Type 0 where
  pub sized : length after ≡ 1800
  pub table : (ds : List Declaration) → Coded ds code → length ds ≡ declared → Counted ds types kids → types ≤ 256 → kids ≤ 1024
      → take (length (table_of 1 ds)) after ≡ untotalled ds
