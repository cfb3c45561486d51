-- Which edits are carried when, and what is known then. Assumes nothing.
use Rattle.std.specs.Prelude.{ℕ, ◌<◌, ◌≡◌, List, length}
use Rattle.table.specs.Words.{types}
use Rattle.table.specs.Privilege.{privileges, first_privilege, Edit, text, insert, delete, exchange, replace, type_of}
use Rattle.carry.specs.Numbers.{new_number}
use Rattle.carry.specs.Carries.{Becomes, Move}
use Rattle.carry.specs.declared.carrying.Site.{Site}

-- p becomes q, by an old edit that is asked for
pub record BecomesBy (Asked : Edit → Type 0) (old new numbers : List ℕ) (p q : ℕ) : Type 0 where
  pub becomes : Becomes old new numbers p q
  pub asked : Asked becomes.before

-- the edits by their kinds: the change of the text of x; insert and delete at x; the replacements at x
pub data TextAt (x : ℕ) : Edit → Type 0 where
  text_at : TextAt x (text x)

pub data EndsAt (x : ℕ) : Edit → Type 0 where
  insert_at : EndsAt x (insert x)
  delete_at : EndsAt x (delete x)

pub data ReplacesAt (x : ℕ) : Edit → Type 0 where
  exchange_at : ReplacesAt x (exchange x)
  replace_at : (i j : ℕ) → ReplacesAt x (replace x i j)

-- all edits at x, and those at the types before x
abbrev pub OfType : ℕ → Edit → Type 0
OfType x e = type_of e ≡ x

abbrev pub TypesTo : ℕ → Edit → Type 0
TypesTo x e = type_of e < x

-- results for what can be carried
pub record Moving (old marks new numbers out lost : List ℕ) : Type 0 where
  pub move : Move old marks new numbers
  pub out_size : length out ≡ privileges new
  pub lost_size : length lost ≡ privileges old

-- an old type with its first privilege, and the new one that it becomes, with its own
pub record MovingAt (old marks new numbers out lost : List ℕ) (s : Site) : Type 0 where
  pub moving : Moving old marks new numbers out lost
  pub type : s.x < types old
  pub first_is : s.first ≡ first_privilege old s.x
  pub y_is : s.y ≡ new_number numbers s.x
  pub there : s.y < types new
  pub onto_is : s.onto ≡ first_privilege new s.y
