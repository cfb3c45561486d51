-- Marks carried along where a table's types are renumbered (document 02, order 2). Assumes nothing.
use Rattle.std.specs.Prelude.{ℕ, ◌≡◌, List, get_or}
use Rattle.table.specs.Privilege.{Edit, Offers, privilege_of}
use Rattle.table.specs.Renumbered.{moved}

-- marks are those of the table ws, carried those of vs, in which the type x of ws is the type f x: each edit keeps its mark
pub record Carried (f : ℕ → ℕ) (ws marks vs carried : List ℕ) : Type 0 where
  pub keeps : (e : Edit) → Offers ws e → get_or carried (privilege_of vs (moved f e)) 0 ≡ get_or marks (privilege_of ws e) 0
