-- Edits that replace an element by one of its own kind (document 02, order 9). Of these a verdict says less: whoever may change something inside an
-- element can make of it what such an edit makes of it, and where there is one tree of the kind only, such an edit changes nothing. Assumes nothing.
use Rattle.std.specs.Prelude.{ℕ, ◌≡◌, List}
use Rattle.table.specs.Rule.{child_at}
use Rattle.table.specs.Privilege.{Edit, text, insert, delete, exchange, replace, Offers, privilege_of}
use Rattle.policy.specs.Marks.{Forbidden}
use Rattle.verdict.specs.declared.Breach.{Breach}
use Rattle.meaning.specs.Trees.{Forest, ConformsAt}

-- the edit replaces an element by one of its own kind
abbrev pub SameKindEdit : Edit → Type 0
SameKindEdit (text x) = ⊥
SameKindEdit (insert x) = ⊥
SameKindEdit (delete x) = ⊥
SameKindEdit (exchange x) = Unit {0}
SameKindEdit (replace x i j) = i ≡ j

-- the kind of the element that the edit puts in or takes out, or whose text it changes
abbrev pub kind_by : List ℕ → Edit → ℕ
kind_by ws (text x) = x
kind_by ws (insert x) = child_at ws x 0
kind_by ws (delete x) = child_at ws x 0
kind_by ws (exchange x) = child_at ws x 0
kind_by ws (replace x i j) = child_at ws x i

-- there is one tree of type y only
abbrev pub OneTree : List ℕ → ℕ → Type 0
OneTree ws y = (t u : Forest) → ConformsAt ws y t → ConformsAt ws y u → t ≡ u

-- the edit replaces an element by one of its own kind, of which there is one tree only
pub record Idle (ws : List ℕ) (e : Edit) : Type 0 where
  pub same_kind : SameKindEdit e
  pub one_tree : OneTree ws (kind_by ws e)

-- the forbidden edit of a breach's privilege is such a one
pub record BreachIdle (ws marks : List ℕ) (b : Breach) : Type 0 where
  pub edit : Edit
  pub offers : Offers ws edit
  pub is : privilege_of ws edit ≡ b.privilege
  pub forbidden : Forbidden marks b.privilege
  pub idle : Idle ws edit
