-- "20 not the grammar, at the first byte that cannot stand there (the length at an early end or with no declaration)" (document 02, order 3): a byte can
-- stand if some text of the grammar begins with all bytes up to it. Assumes nothing.
use Rattle.std.specs.Prelude.{ℕ, suc, ◌≤◌, ◌<◌, ◌≡◌, List, ◌++◌, length, take}
use Rattle.grammar.specs.Tree.{Declaration}
use Rattle.grammar.specs.Grammar.{Text}

-- some text of the grammar begins with the first n bytes of t, and this is its tree
pub record Begins (t : List ℕ) (n : ℕ) (d : Declaration) (ds : List Declaration) : Type 0 where
  pub inside : n ≤ length t
  pub more_bytes : List ℕ
  pub text : Text (take n t ++ more_bytes) d ds

-- some text of the grammar begins with the first n bytes
pub record Viable (t : List ℕ) (n : ℕ) : Type 0 where
  pub head : Declaration
  pub tail : List Declaration
  pub begins : Begins t n head tail

-- 20: byte k cannot stand there, and all before it can; or the text ends early
pub data Stops (t : List ℕ) (k : ℕ) : Type 0 where
  at_byte : k < length t → Viable t k → ¬ Viable t (suc k) → Stops t k
  at_end : k ≡ length t → Viable t k → ((d : Declaration) (ds : List Declaration) → ¬ Text t d ds) → Stops t k
