-- Edits of a tree (document 000, section 3.1 and table 1; document 02, order 9) and what a run of them leads to (section 3.2). An `Edit` is a kind of
-- edit, the paper's update access type (definition 5), and asks for one privilege; what is made of a tree by an edit of that kind is what "matches" it.
-- Assumes nothing.
use Rattle.std.specs.Prelude.{ℕ, ◌≡◌, List}
use Rattle.table.specs.Rule.{child_at, IsText, IsStar}
use Rattle.table.specs.Privilege.{Exchangeable, Replaceable, Edit, text, insert, delete, exchange, replace, privilege_of}
use Rattle.meaning.specs.Trees.{Forest, bare, tree, ConformsAt, Put, Anew}

-- An edit at a node of type x, the paper's A, from one text and children to another; the paper's n is the child. IsText, IsStar, Exchangeable and
-- Replaceable are its "valid_in D".
pub data AtNode (ws : List ℕ) (x : ℕ) : Edit → List ℕ → Forest → List ℕ → Forest → Type 0 where
  -- (A, replace(str, str)): any text for the text
  set_text : {s r : List ℕ} {k : Forest} → IsText ws x → AtNode ws x (text x) s k r k
  -- (A, insert(B)): a tree of the star's kind more
  put_in : {y : ℕ} {s r : List ℕ} {k l m : Forest} → IsStar ws x → y ≡ child_at ws x 0 → ConformsAt ws y (tree y r m bare) → Put y r m k l
      → AtNode ws x (insert x) s k s l
  -- (A, delete(B)): a tree less; in a document it is of the star's kind
  put_out : {y : ℕ} {s r : List ℕ} {k l m : Forest} → IsStar ws x → Put y r m l k → AtNode ws x (delete x) s k s l
  -- order 9, at a star: for one of the trees another one of its kind, in its place
  put_anew : {y : ℕ} {s r : List ℕ} {k l m : Forest} → Exchangeable ws x → y ≡ child_at ws x 0 → ConformsAt ws y (tree y r m bare) → Anew y r m k l
      → AtNode ws x (exchange x) s k s l
  -- (A, replace(B, B')): for the one child of a choice a tree of the kind B', which is another one, or in format 2 may be B
  put_for : {i j y z : ℕ} {s r q : List ℕ} {m n : Forest} → Replaceable ws x i j → y ≡ child_at ws x i → z ≡ child_at ws x j
      → ConformsAt ws z (tree z q n bare) → AtNode ws x (replace x i j) s (tree y r m bare) s (tree z q n bare)

-- the result of an edit of the kind e at a node somewhere in a forest
pub data Makes (ws : List ℕ) (e : Edit) : Forest → Forest → Type 0 where
  at : {x : ℕ} {s r : List ℕ} {k l f : Forest} → AtNode ws x e s k r l → Makes ws e (tree x s k f) (tree x r l f)
  below : {x : ℕ} {s : List ℕ} {k l f : Forest} → Makes ws e k l → Makes ws e (tree x s k f) (tree x s l f)
  beside : {x : ℕ} {s : List ℕ} {k f g : Forest} → Makes ws e f g → Makes ws e (tree x s k f) (tree x s k g)

-- "an update sequence is allowed on t": edits one after another, each asking for a privilege of S; the empty one, ε in figure 4, too
pub data Leads (ws : List ℕ) (S : ℕ → Type 0) : Forest → Forest → Type 0 where
  stay : {t : Forest} → Leads ws S t t
  go : {t u v : Forest} (e : Edit) → S (privilege_of ws e) → Makes ws e t u → Leads ws S u v → Leads ws S t v
