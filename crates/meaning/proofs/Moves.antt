-- Edits by a set of privileges, up to the order of siblings, and what a run of them does to one tree: nothing to its type; to its text and its
-- children what edits at its root do, and moves of the children. Assumes nothing.
use Prim.Native.Nat.{ℕ}
use mathlib.Core.List.{List}
use Rattle.table.specs.Privilege.{Edit, privilege_of}
use Rattle.meaning.specs.Trees.{Forest, bare, tree, put_first, Same, same_none, same_tree}
use Rattle.meaning.specs.Edits.{AtNode, Makes, at, below, beside, Leads, stay, go}
use Rattle.meaning.proofs.Putting.{Some}
use Rattle.meaning.proofs.Matching.{Into, into_self, into_join, Reflexive, Transitive, Matched, matched_self, matched_tree}
use Rattle.meaning.proofs.Orders.{same_refl, same_sym, same_into}

-- one edit, or another order
pub data Move (ws : List ℕ) (S : ℕ → Type 0) : Forest → Forest → Type 0 where
  ordered : {t u : Forest} → Same t u → Move ws S t u
  edited : {t u : Forest} (e : Edit) → S (privilege_of ws e) → Makes ws e t u → Move ws S t u

pub data Moves (ws : List ℕ) (S : ℕ → Type 0) : Forest → Forest → Type 0 where
  still : {t : Forest} → Moves ws S t t
  then : {t u v : Forest} → Moves ws S t u → Move ws S u v → Moves ws S t v

-- the same backwards
abbrev pub Back : List ℕ → (ℕ → Type 0) → Forest → Forest → Type 0
Back ws S t u = Moves ws S u t

-- what a move of one tree of type x does to its text and its children
pub data Within (ws : List ℕ) (S : ℕ → Type 0) (x : ℕ) : List ℕ → Forest → List ℕ → Forest → Type 0 where
  inside : {s : List ℕ} {k l : Forest} → Move ws S k l → Within ws S x s k s l
  at_root : {s r : List ℕ} {k l : Forest} (e : Edit) → S (privilege_of ws e) → AtNode ws x e s k r l → Within ws S x s k r l

-- one tree of type x whose text and children have Q
pub data Root (x : ℕ) (Q : List ℕ → Forest → Type 0) : Forest → Type 0 where
  root : {s : List ℕ} {k : Forest} → Q s k → Root x Q (tree x s k bare)

pub makes_some : {ws : List ℕ} {e : Edit} {f g : Forest} → Makes ws e f g → Some f
makes_some (at m) = tt
makes_some (below m) = tt
makes_some (beside m) = tt

module _ {ws : List ℕ} {S : ℕ → Type 0} where
  moves_from : {t u v : Forest} → Move ws S t u → Moves ws S u v → Moves ws S t v
  moves_from m still = then still m
  moves_from m (then p q) = then (moves_from m p) q

  -- what leads is moves
  pub leads_moves : {t u v : Forest} → Leads ws S t u → Same u v → Moves ws S t v
  leads_moves stay s = then still (ordered s)
  leads_moves (go e a m l) s = moves_from (edited e a m) (leads_moves l s)

  pub moves_join : Transitive (Moves ws S)
  moves_join t u v p still = p
  moves_join t u v p (then {u = w} q m) = then (moves_join t u w p q) m

  pub back_join : Transitive (Back ws S)
  back_join t u v p q = moves_join v u t q p

  self : Reflexive (Move ws S)
  self t = ordered (same_refl t)

  makes_matched : (e : Edit) → S (privilege_of ws e) → {f g : Forest} → Makes ws e f g → Matched (Move ws S) f g
  makes_matched e a (at {f = f} m) = matched_tree (edited e a (at m)) (matched_self self f)
  makes_matched e a (below {f = f} m) = matched_tree (edited e a (below m)) (matched_self self f)
  makes_matched e a (beside m) = matched_tree (self _) (makes_matched e a m)

  -- a move of a forest is moves of its trees
  pub move_matched : {f g : Forest} → Move ws S f g → Matched (Move ws S) f g
  move_matched (ordered s) = record { forth = same_into (λ t u a. ordered a) s; back = same_into (λ t u a. ordered (same_sym a)) (same_sym s) }
  move_matched (edited e a m) = makes_matched e a m

  into_moved : {f g h : Forest} → Into (Moves ws S) f g → Move ws S g h → Into (Moves ws S) f h
  into_moved i m = into_join (λ t u v p w. then p w) i (move_matched m).forth

  pub moves_into : {f g : Forest} → Moves ws S f g → Into (Moves ws S) f g
  moves_into {f} still = into_self (λ t. still) f
  moves_into (then p m) = into_moved (moves_into p) m

  module _ {x : ℕ} {Q : List ℕ → Forest → Type 0} (keeps : (s r : List ℕ) (k l : Forest) → Within ws S x s k r l → Q s k → Q r l) where
    pub root_kept : {t u : Forest} → Move ws S t u → Root x Q t → Root x Q u
    root_kept (ordered same_none) r = elim r [ ]
    root_kept (ordered (same_tree a same_none put_first)) (root q) = root (keeps _ _ _ _ (inside (ordered a)) q)
    root_kept (ordered (same_tree a (same_tree b c p) q)) r = elim r [ ]
    root_kept (edited e a (at m)) (root q) = root (keeps _ _ _ _ (at_root e a m) q)
    root_kept (edited e a (below m)) (root q) = root (keeps _ _ _ _ (inside (edited e a m)) q)
    root_kept (edited e a (beside m)) (root q) = absurd (makes_some m)

    -- what each move within a tree keeps, moves of the tree keep
    pub run_keeps : {t u : Forest} → Moves ws S t u → Root x Q t → Root x Q u
    run_keeps still q = q
    run_keeps (then m s) q = root_kept s (run_keeps m q)
