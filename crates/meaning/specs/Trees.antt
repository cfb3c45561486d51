-- Trees, what it is for one to conform to a table, and when two are the same (document 000, section 2). The text of an element stands at the
-- element itself, where the paper has a node of its own for it. Assumes nothing.
use Rattle.std.specs.Prelude.{ℕ, ◌<◌, ◌≡◌, List, [], ◌∷◌, replicate}
use Rattle.table.specs.Words.{root}
use Rattle.table.specs.Rule.{children_at, child_at, count_of, OfKind, IsText, IsChoice, IsStar}

-- Definition 3. A forest is a list of trees: `bare` has none; `tree x s k f` is a tree whose root is of type x, with the text s and the children k,
-- and behind it the trees of f. A tree is a forest of one, `tree x s k bare`.
pub data Forest : Type 0 where
  bare : Forest
  tree : ℕ → List ℕ → Forest → Forest → Forest

-- Definition 1, the five forms of a rule: the text s and the types xs of the children, "their labels, are in the language defined by" the rule of x
pub data Fits (ws : List ℕ) (x : ℕ) (s xs : List ℕ) : Type 0 where
  -- ε
  as_empty : OfKind ws x 0 → s ≡ [] → xs ≡ [] → Fits ws x s xs
  -- str
  as_text : IsText ws x → xs ≡ [] → Fits ws x s xs
  -- B1, B2, ..., Bn
  as_sequence : OfKind ws x 2 → s ≡ [] → xs ≡ children_at ws x → Fits ws x s xs
  -- B1 + B2 + ... + Bn
  as_choice : (i : ℕ) → IsChoice ws x → i < count_of ws x → s ≡ [] → xs ≡ child_at ws x i ∷ [] → Fits ws x s xs
  -- B1*
  as_star : (n : ℕ) → IsStar ws x → s ≡ [] → xs ≡ replicate n (child_at ws x 0) → Fits ws x s xs

-- Behind definition 3, "conforms to a DTD D at element type A": the trees of a forest do, at the types xs, one after another. The paper's unordered
-- trees conform if they do so in some order of the siblings; ours stand in such an order.
pub data Conforms (ws : List ℕ) : List ℕ → Forest → Type 0 where
  no_tree : Conforms ws [] bare
  conforming : {x : ℕ} {s xs ys : List ℕ} {k f : Forest} → Fits ws x s xs → Conforms ws xs k → Conforms ws ys f → Conforms ws (x ∷ ys) (tree x s k f)

-- one tree, at type x
abbrev pub ConformsAt : List ℕ → ℕ → Forest → Type 0
ConformsAt ws x t = Conforms ws (x ∷ []) t

-- "a valid instance of the DTD D", the root being "labeled with rt"
abbrev pub Document : List ℕ → Forest → Type 0
Document ws t = ConformsAt ws (root ws) t

-- g is f with the tree of type x, text s and children k put in somewhere
pub data Put (x : ℕ) (s : List ℕ) (k : Forest) : Forest → Forest → Type 0 where
  put_first : {f : Forest} → Put x s k f (tree x s k f)
  put_later : {y : ℕ} {r : List ℕ} {l f g : Forest} → Put x s k f g → Put x s k (tree y r l f) (tree y r l g)

-- g is f with one of its trees, of type x, replaced by the tree of type x, text s and children k
pub data Anew (x : ℕ) (s : List ℕ) (k : Forest) : Forest → Forest → Type 0 where
  anew_first : {r : List ℕ} {l f : Forest} → Anew x s k (tree x r l f) (tree x s k f)
  anew_later : {y : ℕ} {r : List ℕ} {l f g : Forest} → Anew x s k f g → Anew x s k (tree y r l f) (tree y r l g)

-- Definition 4, isomorphic: the same but for the order of siblings, at every depth
pub data Same : Forest → Forest → Type 0 where
  same_none : Same bare bare
  same_tree : {x : ℕ} {s : List ℕ} {k l f g h : Forest} → Same k l → Same f g → Put x s l g h → Same (tree x s k f) h
