-- The names that a content uses, as they stand in the text one behind the other. Assumes nothing.
use Rattle.std.specs.Prelude.{ℕ, suc, ◌≤◌, ◌≡◌, List, [], ◌∷◌}
use Prim.Native.Char.{code}
use Rattle.grammar.specs.Bytes.{is_name_start, is_name_byte, Byte, Of}
use Rattle.grammar.specs.Tree.{Declaration, Use, uses_of}
use Rattle.grammar.specs.Grammar.{Name}
use Rattle.names.specs.Steps.Walk.{DeclaredAt}

-- these names stand from a to b, each of them whole, and no other; no '>' stands there
pub data Flat (t : List ℕ) : ℕ → ℕ → List Use → Type 0 where
  at_end : {a : ℕ} → Flat t a a []
  no_use : {a b : ℕ} {us : List Use} → ¬ Of is_name_start t a → ¬ Byte t a (code ">") → Flat t (suc a) b us → Flat t a b us
  a_use : {a b c : ℕ} {u : Use} {us : List Use} → u.place ≡ a → Name t a b u.bytes → ¬ Of is_name_byte t b → Flat t b c us → Flat t a c (u ∷ us)

-- from e on, the names in the content at a are those that it uses
pub record UsesRead (t : List ℕ) (a e : ℕ) : Type 0 where
  pub of : (d : Declaration) (ds : List Declaration) (name : ℕ) (x : DeclaredAt t d ds name a) → Flat t e x.close (uses_of d.content)
  pub from : a ≤ e
