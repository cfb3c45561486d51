-- "One line for each set privilege, ascending" (document 02, order 10). Assumes nothing.
use Rattle.std.specs.Prelude.{ℕ, suc, ◌≡◌, ◌≢◌, List, [], ◌++◌, get_or}
use Rattle.table.specs.Privilege.{Edit, Offers, privilege_of, privileges}
use Rattle.table.specs.Named.{name_of}
use Rattle.listing.specs.Line.{line_of}

-- the line of privilege p with this mark
pub record LineOf (label : ℕ → List ℕ) (ws : List ℕ) (p mark : ℕ) (line : List ℕ) : Type 0 where
  pub edit : Edit
  pub offered : Offers ws edit
  pub number : privilege_of ws edit ≡ p
  pub is : line ≡ line_of label mark (name_of ws edit)

-- the lines of the set privileges below n, ascending
pub data Lists (label : ℕ → List ℕ) (ws marks : List ℕ) : ℕ → List ℕ → Type 0 where
  none : Lists label ws marks 0 []
  unset : {n : ℕ} {lines : List ℕ} → Lists label ws marks n lines → get_or marks n 0 ≡ 0 → Lists label ws marks (suc n) lines
  set : {n : ℕ} {lines line after : List ℕ} → Lists label ws marks n lines → get_or marks n 0 ≢ 0 → LineOf label ws n (get_or marks n 0) line
      → after ≡ lines ++ line → Lists label ws marks (suc n) after

-- the listing of a policy
abbrev pub ListingOf : (ℕ → List ℕ) → List ℕ → List ℕ → List ℕ → Type 0
ListingOf label ws marks listing = Lists label ws marks (privileges ws) listing
