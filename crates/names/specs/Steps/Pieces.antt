-- What the readers of the parts of a declaration say of a text that is of the grammar. Assumes nothing.
use Rattle.std.specs.Prelude.{ℕ, ◌≤◌, ◌≡◌, List, ◌∷◌, length, Option}
use Rattle.grammar.specs.Bytes.{is_name_byte, Of, Span}
use Rattle.grammar.specs.Tree.{Declaration}
use Rattle.grammar.specs.Grammar.{Element, Remark, Items}
use Rattle.names.specs.declared.walk.Declared.{Declared}
use Rattle.names.specs.Steps.Walk.{NextOf, Moved}

-- bytes of a name up to e, and no more of them
pub record NameEnd (t : List ℕ) (a e : ℕ) : Type 0 where
  pub inside : a ≤ length t → e ≤ length t
  pub bytes : Span is_name_byte t a e
  pub over : ¬ Of is_name_byte t e

-- a comment ends at e
pub record RemarkRead (t : List ℕ) (a e : ℕ) : Type 0 where
  pub of : (b : ℕ) → Remark t a b → b ≡ e
  pub from : a ≤ e

-- the declaration at a
pub record ElementRead (t : List ℕ) (a : ℕ) (r : Option Declared) : Type 0 where
  pub of : (b : ℕ) (d : Declaration) (ds : List Declaration) → Element t a b d → Items t b ds → NextOf t (d ∷ ds) r
  pub moved : Moved t a r
