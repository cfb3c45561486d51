-- Other readings of document 000: of "the same tree", of definition 7, and lemma 2. Laws cite them, and no promise does. Assumes nothing.
use Rattle.std.specs.Prelude.{ℕ, ◌≡◌, List}
use Rattle.table.specs.Rule.{IsText}
use Rattle.table.specs.Privilege.{Edit, text_of, privilege_of}
use Rattle.table.specs.Check.{Accepted}
use Rattle.policy.specs.Marks.{Allowed, Forbidden}
use Rattle.completion.specs.Granted.{Granted}
use Rattle.meaning.specs.Trees.{Forest, Document, Same}
use Rattle.meaning.specs.Edits.{Makes}
use Rattle.meaning.specs.Consistent.{Simulates, Imitation}

-- a reading of "the same tree": equal trees are, and trees that are not isomorphic are not
pub record Reading (R : Forest → Forest → Type 0) : Type 0 where
  pub equal : (t : Forest) → R t t
  pub isomorphic : (t u : Forest) → R t u → Same t u

-- definition 7 where the order of siblings counts
abbrev pub ConsistentInOrder : List ℕ → List ℕ → Type 0
ConsistentInOrder ws marks = ¬ Imitation ws ◌≡◌ marks

-- definition 7 word for word: the forbidden edit may change nothing
pub record Simulation (ws marks : List ℕ) : Type 0 where
  pub edit : Edit
  pub forbidden : Forbidden marks (privilege_of ws edit)
  pub start : Forest
  pub goal : Forest
  pub simulates : Simulates ws Same (Allowed marks) edit start goal

-- no text is forbidden
abbrev pub TextsFree : List ℕ → List ℕ → Type 0
TextsFree ws marks = (x : ℕ) → IsText ws x → ¬ Forbidden marks (text_of ws x)

-- lemma 2 (section 4.1): what T holds can be simulated on every document and at every node, "any operation op0 matching uat on t"
abbrev pub Lemma2 : List ℕ → (ℕ → Type 0) → Type 0
Lemma2 ws S = (e : Edit) (start goal : Forest) → Granted ws S (privilege_of ws e) → Document ws start → Makes ws e start goal
    → Simulates ws Same S e start goal

-- a table and marks for which it fails
pub record Counterexample : Type 0 where
  pub ws : List ℕ
  pub marks : List ℕ
  pub accepted : Accepted ws
  pub fails : ¬ Lemma2 ws (Allowed marks)
