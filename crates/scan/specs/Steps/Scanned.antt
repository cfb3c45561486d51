-- What scanning a text answers: number 20's place or 21's, of which "the earliest byte decides, then the lower number" (document 02, order 3); or neither
-- is there. The numbers of types and of child entries, which are told at the length, are left to what makes the table. Assumes nothing.
use Rattle.std.specs.Prelude.{ℕ, ◌≤◌, ◌<◌, ◌≡◌, List, length}
use Rattle.grammar.specs.Tree.{Declaration}
use Rattle.grammar.specs.Grammar.{Text}
use Rattle.grammar.specs.Stops.{Stops}
use Rattle.grammar.specs.Limits as limits
use Rattle.scan.specs.declared.Stop.{Stop}
use Rattle.std.specs.Prelude.{Result, Ok, Err}
use Rattle.scan.specs.declared.Stop.TheVariants.{Bad, Over}

-- 20 at k
pub record Stopped (t : List ℕ) (k : ℕ) : Type 0 where
  pub stops : Stops t k
  pub first : (j : ℕ) → j < k → ¬ limits.Over t j

-- 21 at k
pub record Passed (t : List ℕ) (k : ℕ) : Type 0 where
  pub passes : limits.Over t k
  pub first : (j : ℕ) → j < k → ¬ limits.Over t j
  pub before : (j : ℕ) → j ≤ k → ¬ Stops t j

-- the text is of the grammar and passes no limit
pub record Read (t : List ℕ) : Type 0 where
  pub head : Declaration
  pub tail : List Declaration
  pub text : Text t head tail
  pub small : (k : ℕ) → ¬ limits.Over t k

abbrev pub Scanned : List ℕ → Result ℕ Stop → Type 0
Scanned t (Ok e) = (e ≡ length t) × Read t
Scanned t (Err (Bad k)) = Stopped t k
Scanned t (Err (Over k)) = Passed t k
