-- "Then 22, the earliest name declared before, or used and never declared" (document 02, order 3), each at the byte at which the name starts. Assumes
-- nothing.
use Rattle.std.specs.Prelude.{ℕ, ◌<◌, ◌≡◌, ◌⊎◌, List}
use Rattle.grammar.specs.Tree.{Use, Declaration, Nth, uses_of}

-- the name is declared
pub record Declared (ds : List Declaration) (n : List ℕ) : Type 0 where
  pub number : ℕ
  pub declaration : Declaration
  pub there : Nth ds number declaration
  pub same : declaration.named ≡ n

-- a name declared before, at the place of its later declaration
pub record DeclaredBefore (ds : List Declaration) (place : ℕ) : Type 0 where
  pub i : ℕ
  pub j : ℕ
  pub one : Declaration
  pub other : Declaration
  pub earlier : i < j
  pub at_one : Nth ds i one
  pub at_other : Nth ds j other
  pub same : one.named ≡ other.named
  pub is : other.place ≡ place

-- a name that is used and never declared
pub record NeverDeclared (ds : List Declaration) (place : ℕ) : Type 0 where
  pub i : ℕ
  pub j : ℕ
  pub declaration : Declaration
  pub used : Use
  pub at_declaration : Nth ds i declaration
  pub at_used : Nth (uses_of declaration.content) j used
  pub never : ¬ Declared ds used.bytes
  pub is : used.place ≡ place

-- 22
abbrev pub Misnamed : List Declaration → ℕ → Type 0
Misnamed ds place = DeclaredBefore ds place ⊎ NeverDeclared ds place
