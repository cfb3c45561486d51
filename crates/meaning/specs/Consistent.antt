-- What it is to imitate a kind of edit, and to be consistent (document 000, definition 7). A policy's sets of allowed and of forbidden kinds (definition
-- 6) are its marks; an unset one is in neither. An edit that changes nothing counts as none here: specs/Readings has definition 7 word for word.
-- Assumes nothing.
use Rattle.std.specs.Prelude.{ℕ, List}
use Rattle.table.specs.Privilege.{Edit, privilege_of}
use Rattle.policy.specs.Marks.{Allowed, Forbidden}
use Rattle.meaning.specs.Trees.{Forest, Document, Same}
use Rattle.meaning.specs.Edits.{Makes, Leads}

-- An edit of the kind e makes goal of the document start, and edits that ask for privileges of S lead from start to the same. R tells which trees
-- are the same: Same, or _≡_ where the order of siblings counts.
pub record Simulates (ws : List ℕ) (R : Forest → Forest → Type 0) (S : ℕ → Type 0) (e : Edit) (start goal : Forest) : Type 0 where
  pub document : Document ws start
  pub made : Makes ws e start goal
  pub end : Forest
  pub leads : Leads ws S start end
  pub same_end : R end goal

-- so for some edit of the kind e on some document, which it changes; not for every one
pub record Imitates (ws : List ℕ) (R : Forest → Forest → Type 0) (S : ℕ → Type 0) (e : Edit) : Type 0 where
  pub start : Forest
  pub goal : Forest
  pub simulates : Simulates ws R S e start goal
  pub changes : ¬ R start goal

-- allowed edits do what a forbidden one does
pub record Imitation (ws : List ℕ) (R : Forest → Forest → Type 0) (marks : List ℕ) : Type 0 where
  pub edit : Edit
  pub forbidden : Forbidden marks (privilege_of ws edit)
  pub imitates : Imitates ws R (Allowed marks) edit

-- "it is not possible to simulate a forbidden update through a sequence of allowed updates"
abbrev pub Consistent : List ℕ → List ℕ → Type 0
Consistent ws marks = ¬ Imitation ws Same marks
