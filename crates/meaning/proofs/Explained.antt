-- What a run of edits imitates is granted: allowed, or forced; but for an edit that replaces an element by one of its own kind. The edit is followed
-- down from the root. At each node on the way the trees beside it cancel, so the run leads from the one tree to the other; at the node it needs the
-- edit's own privilege or a chain of replacements, and above it what renews a star's child or a cycle of replacements, where it does not lead on to
-- the child. Assumes nothing.
use Prim.Native.Nat.{ℕ, ◌<◌}
use mathlib.Core.Path.{◌≡◌, refl, sym, ap, ◌∙◌}
use mathlib.Core.Logic.{◌≢◌, ◌⊎◌, inl, inr, ⊎_map}
use mathlib.Core.List.{List}
use native.Mathlib.Omega.{arith}
use lib.ListN.{replicate, length-replicate, get_or-replicate}
use Rattle.table.specs.Plus.{last}
use Rattle.table.specs.Rule.{child_at, count_of, OfKind, IsText, IsChoice, IsStar}
use Rattle.table.specs.Below.{here}
use Rattle.table.specs.Privilege.{text_of, insert_of, delete_of, exchange_of, replace_of, Exchangeable, Edit, privilege_of}
use Rattle.table.specs.Check.{Accepted}
use Rattle.table.proofs.Facts.{facts}
use Rattle.policy.specs.Reached.{Step, Reached}
use Rattle.policy.specs.Renewed.{Renewed, by_both, by_exchange}
use Rattle.policy.proofs.Closures.{plus_trans}
use Rattle.policy.proofs.Reaches.{reached_to}
use Rattle.verdict.specs.Forces.{renewal, chain, cycle}
use Rattle.completion.specs.Granted.{Granted}
use Rattle.meaning.specs.Trees.{Forest, bare, tree, Fits, as_empty, as_text, as_sequence, as_choice, as_star, Conforms, no_tree, conforming, ConformsAt, put_first}
use Rattle.meaning.specs.Edits.{AtNode, set_text, put_in, put_out, put_anew, put_for, Makes, at, below, beside}
use Rattle.meaning.specs.SameKind.{SameKindEdit}
use Rattle.meaning.proofs.Matching.{Into, into_none, into_tree, into_self, into_size, into_more, into_less, into_join, into_either, into_cancel, into_first, matched_anew, size_put}
use Rattle.meaning.proofs.Moves.{Move, Moves, still, then, Back, moves_join, back_join, Within, inside, at_root, Root, root, makes_some, move_matched, moves_into, root_kept, run_keeps}
use Rattle.meaning.proofs.Conforming.{none_conforms, makes_conforms, AllBelow, makes_privilege}

-- the trees of one forest lead, one to one, to those of the other, or these come from those
pub data Linked (ws : List ℕ) (S : ℕ → Type 0) (f g : Forest) : Type 0 where
  ahead : Into (Moves ws S) f g → Linked ws S f g
  behind : Into (Back ws S) g f → Linked ws S f g

module _ {ws : List ℕ} {S : ℕ → Type 0} where
  -- the same tree in front cancels, and so do the same trees behind
  pub linked_rest : {x : ℕ} {s : List ℕ} {k f g : Forest} → Linked ws S (tree x s k f) (tree x s k g) → Linked ws S f g
  linked_rest (ahead i) = ahead (into_cancel moves_join i put_first put_first)
  linked_rest (behind i) = behind (into_cancel back_join i put_first put_first)

  pub linked_first : {x : ℕ} {s r : List ℕ} {k l : Forest} (f : Forest) → Linked ws S (tree x s k f) (tree x r l f) → Moves ws S (tree x s k bare) (tree x r l bare)
  linked_first f (ahead i) = into_first moves_join f i
  linked_first f (behind i) = into_first back_join f i

-- What a run does at a node of type x, from the text s or the children k on.
module _ (ws : List ℕ) (S : ℕ → Type 0) (x : ℕ) where
  -- the text is as it was, or it may be changed
  abbrev Reads : List ℕ → List ℕ → Forest → Type 0
  Reads s r l = (s ≡ r) ⊎ (IsText ws x × S (text_of ws x))

  -- a child leads to another, or any of them may be exchanged for any other
  abbrev Passes : Forest → Forest → Type 0
  Passes t u = Moves ws S t u ⊎ (Exchangeable ws x × S (exchange_of ws x))

  -- the children pass into those that are there, or some may be deleted
  abbrev Forth : Forest → List ℕ → Forest → Type 0
  Forth k r l = Into Passes k l ⊎ (IsStar ws x × S (delete_of ws x))

  -- those that are there come from the children, or some may be inserted
  abbrev Whence : Forest → List ℕ → Forest → Type 0
  Whence k r l = Into (λ t u. Passes u t) l k ⊎ (IsStar ws x × S (insert_of ws x))

  -- the one child of a choice: it leads to the one that is there, of its own kind i, or replacements lead from i to the kind that is there
  data Turned (i : ℕ) (k : Forest) (r : List ℕ) : Forest → Type 0 where
    stays : {y : ℕ} {s : List ℕ} {l : Forest} → y ≡ child_at ws x i → Moves ws S k (tree y s l bare) → Turned i k r (tree y s l bare)
    turns : {y : ℕ} {s : List ℕ} {l : Forest} (j : ℕ) → y ≡ child_at ws x j → Reached ws S x i j → Turned i k r (tree y s l bare)

module _ {ws : List ℕ} {S : ℕ → Type 0} {x : ℕ} where
  reads_kept : {s : List ℕ} (r q : List ℕ) (k l : Forest) → Within ws S x r k q l → Reads ws S x s r k → Reads ws S x s q l
  reads_kept r q k l (inside m) h = h
  reads_kept r q k l (at_root e a (set_text i)) h = inr (i, a)
  reads_kept r q k l (at_root e a (put_in i y v p)) h = h
  reads_kept r q k l (at_root e a (put_out i p)) h = h
  reads_kept r q k l (at_root e a (put_anew c y v p)) h = h
  reads_kept r q k l (at_root e a (put_for o y z v)) h = h

  forth_kept : ¬ IsChoice ws x → {d : Forest} (r q : List ℕ) (k l : Forest) → Within ws S x r k q l → Forth ws S x d r k → Forth ws S x d q l
  forth_kept n r q k l (inside m) (inl i) = inl (into_join (λ t u v p w. ⊎_map (λ h. then h w) (λ h. h) p) i (move_matched m).forth)
  forth_kept n r q k l (at_root e a (set_text t)) (inl i) = inl i
  forth_kept n r q k l (at_root e a (put_in t y v p)) (inl i) = inl (into_more i p)
  forth_kept n r q k l (at_root e a (put_out t p)) (inl i) = inr (t, a)
  forth_kept n r q k l (at_root e a (put_anew c y v p)) (inl i) = inl (into_join (λ t u v w h. inr h) i (matched_anew (λ t u. (c, a)) p).forth)
  forth_kept n r q k l (at_root e a (put_for o y z v)) (inl i) = absurd (n o.choice)
  forth_kept n r q k l w (inr d) = inr d

  whence_kept : ¬ IsChoice ws x → {d : Forest} (r q : List ℕ) (k l : Forest) → Within ws S x r k q l → Whence ws S x d r k → Whence ws S x d q l
  whence_kept n r q k l (inside m) (inl i) = inl (into_join (λ t u v p w. ⊎_map (λ h. then h p) (λ h. h) w) (move_matched m).back i)
  whence_kept n r q k l (at_root e a (set_text t)) (inl i) = inl i
  whence_kept n r q k l (at_root e a (put_in t y v p)) (inl i) = inr (t, a)
  whence_kept n r q k l (at_root e a (put_out t p)) (inl i) = inl (into_less i p)
  whence_kept n r q k l (at_root e a (put_anew c y v p)) (inl i) = inl (into_join (λ t u v h w. inr h) (matched_anew (λ t u. (c, a)) p).back i)
  whence_kept n r q k l (at_root e a (put_for o y z v)) (inl i) = absurd (n o.choice)
  whence_kept n r q k l w (inr d) = inr d

  -- so at a star the child is renewed, or the run leads on from the children
  renews : {k l : Forest} (s : List ℕ) → Forth ws S x k s l → Whence ws S x k s l → Renewed ws S x ⊎ Linked ws S k l
  renews s (inl i) h = elim (into_either i) [ inl j ↦ inr (ahead j) | inr e ↦ inl (by_exchange e.0 e.1) ]
  renews s (inr d) (inl i) = elim (into_either i) [ inl j ↦ inr (behind j) | inr e ↦ inl (by_exchange e.0 e.1) ]
  renews s (inr d) (inr a) = inl (by_both (record { insert = a.1; delete = d.1 }))

  on : {i y : ℕ} {s r : List ℕ} {d k u : Forest} → Turned ws S x i d r (tree y s k bare) → Move ws S (tree y s k bare) u → Root y (λ w l. Unit) u → Turned ws S x i d r u
  on (stays e p) m (root h) = stays e (then p m)
  on (turns j e p) m (root h) = turns j e p

  onward : {i : ℕ} {r : List ℕ} {d k l : Forest} → Move ws S k l → Turned ws S x i d r k → Turned ws S x i d r l
  onward m (stays e p) = on (stays e p) m (root_kept (λ s r k l w h. tt) m (root tt))
  onward m (turns j e p) = on (turns j e p) m (root_kept (λ s r k l w h. tt) m (root tt))

  module _ (ok : Accepted ws) {i : ℕ} (choice : IsChoice ws x) (from : i < count_of ws x) where
    turned_kept : {d : Forest} (r q : List ℕ) (k l : Forest) → Within ws S x r k q l → Turned ws S x i d r k → Turned ws S x i d q l
    turned_kept r q k l (inside m) h = onward m h
    turned_kept r q k l (at_root e a (set_text t)) h = absurd (omega (arith, t.kind_is, choice.kind_is))
    turned_kept r q k l (at_root e a (put_in t y v p)) h = absurd (omega (arith, t.kind_is, choice.kind_is))
    turned_kept r q k l (at_root e a (put_out t p)) h = absurd (omega (arith, t.kind_is, choice.kind_is))
    turned_kept r q k l (at_root e a (put_anew t y v p)) h = absurd (omega (arith, t.star.kind_is, choice.kind_is))
    turned_kept r q k l (at_root e a (put_for {i = b} {j = c} o g z v)) (stays y p) =
        let is : b ≡ i = (facts ok).child_once x b i choice.type o.from from (sym g ∙ y) in
        let step : Step ws S x b c = record { can = o; allowed = a } in
        turns c z (last (rw is at step))
    turned_kept r q k l (at_root e a (put_for {i = b} {j = c} o g z v)) (turns j y p) =
        let is : b ≡ j = (facts ok).child_once x b j choice.type o.from (reached_to p) (sym g ∙ y) in
        let step : Step ws S x b c = record { can = o; allowed = a } in
        turns c z (plus_trans p (last (rw is at step)))

-- what holds of the text and the children of a tree of type x
at_end : {x y : ℕ} {Q : List ℕ → Forest → Type 0} {s : List ℕ} {k : Forest} → Root x Q (tree y s k bare) → Q s k
at_end (root q) = q

module _ {ws : List ℕ} {S : ℕ → Type 0} {x : ℕ} {s r : List ℕ} {k l : Forest} (run : Moves ws S (tree x s k bare) (tree x r l bare)) where
  pub text_run : Reads ws S x s r l
  text_run = at_end {Q = Reads ws S x s} (run_keeps reads_kept run (root (inl refl)))

  forth_run : ¬ IsChoice ws x → Forth ws S x k r l
  forth_run n = at_end {Q = Forth ws S x k} (run_keeps (forth_kept n) run (root (inl (into_self (λ t. inl still) k))))

  whence_run : ¬ IsChoice ws x → Whence ws S x k r l
  whence_run n = at_end {Q = Whence ws S x k} (run_keeps (whence_kept n) run (root (inl (into_self (λ t. inl still) k))))

  -- at a sequence the run leads on from the children
  pub sequence_run : OfKind ws x 2 → Into (Moves ws S) k l
  sequence_run o = elim (forth_run (λ c. omega (arith, o.kind_is, c.kind_is))) [
    | inl i ↦ elim (into_either i) [ inl j ↦ j | inr e ↦ absurd (omega (arith, o.kind_is, e.0.star.kind_is)) ]
    | inr h ↦ absurd (omega (arith, o.kind_is, h.0.kind_is))
  ]

-- at a choice, from its one child of kind i
turned_run : {ws : List ℕ} {S : ℕ → Type 0} {x i y : ℕ} {s r q : List ℕ} {k l : Forest} → Accepted ws → IsChoice ws x → i < count_of ws x → y ≡ child_at ws x i
    → Moves ws S (tree x s (tree y q k bare) bare) (tree x r l bare) → Turned ws S x i (tree y q k bare) r l
turned_run {ws} {S} {x} {i} {y} {q = q} {k = k} ok c f e run = at_end {Q = Turned ws S x i (tree y q k bare)} (run_keeps (turned_kept ok c f) run (root (stays e still)))

not_choice : {ws : List ℕ} {x : ℕ} → IsStar ws x → ¬ IsChoice ws x
not_choice i c = omega (arith, i.kind_is, c.kind_is)

all_kind : (ws : List ℕ) (n c : ℕ) → AllBelow ws (replicate n c) c
all_kind ws n c i l = rw (get_or-replicate {A = ℕ} n i c 0 (omega (arith, length-replicate {A = ℕ} n c))) here

module _ {ws : List ℕ} (ok : Accepted ws) {S : ℕ → Type 0} where
  -- at the edit's own node
  at_explained : {x : ℕ} {e : Edit} {s r : List ℕ} {k l f : Forest} → AtNode ws x e s k r l → ¬ SameKindEdit e → tree x s k f ≢ tree x r l f
      → Moves ws S (tree x s k bare) (tree x r l bare) → Granted ws S (privilege_of ws e)
  at_explained {x} {f = f} (set_text {k = k} i) other d run = elim (text_run run) [
    | inl q ↦ absurd (d (ap (λ (w : List ℕ). tree x w k f) q))
    | inr h ↦ inl h.1
  ]
  at_explained (put_in i y v q) other d run = elim (whence_run run (not_choice i)) [
    | inl j ↦ absurd (omega (arith, into_size j, size_put q))
    | inr h ↦ inl h.1
  ]
  at_explained (put_out i q) other d run = elim (forth_run run (not_choice i)) [
    | inl j ↦ absurd (omega (arith, into_size j, size_put q))
    | inr h ↦ inl h.1
  ]
  at_explained (put_anew c y v q) other d run = absurd (other tt)
  at_explained {x} (put_for {i = i} {j = j} {y = y} {z = z} o g h v) other d run = go (turned_run ok o.choice o.from g run)
    where
      go : {p q r : List ℕ} {m n : Forest} → Turned ws S x i (tree y p m bare) q (tree z r n bare) → Granted ws S (replace_of ws x i j)
      go (stays e p) = absurd (other ((facts ok).child_once x i j o.choice.type o.from o.to (sym e ∙ h)))
      go (turns b e p) =
          let is : b ≡ j = (facts ok).child_once x b j o.choice.type (reached_to p) o.to (sym e ∙ h) in
          inr (chain x i j o.choice (rw is at p) o refl)

  -- above it, at a choice whose one child is of kind i
  lone_explained : {x i : ℕ} {e : Edit} {s : List ℕ} {k l : Forest} → IsChoice ws x → i < count_of ws x → ConformsAt ws (child_at ws x i) k → ConformsAt ws (child_at ws x i) l
      → Makes ws e k l → Moves ws S (tree x s k bare) (tree x s l bare) → Granted ws S (privilege_of ws e) ⊎ Linked ws S k l
  lone_explained {x} {i} {e} o f (conforming t v no_tree) (conforming u w no_tree) m run = go (turned_run ok o f refl run)
    where
      go : {p q r : List ℕ} {d b : Forest} → Turned ws S x i (tree (child_at ws x i) p d bare) q (tree (child_at ws x i) r b bare)
          → Granted ws S (privilege_of ws e) ⊎ Linked ws S (tree (child_at ws x i) p d bare) (tree (child_at ws x i) r b bare)
      go (stays y p) = inr (ahead (into_tree p into_none put_first))
      go (turns j y p) =
          let is : j ≡ i = (facts ok).child_once x j i o.type (reached_to p) f (sym y) in
          inl (inr (cycle x i o (rw is at p) (makes_privilege ok m (conforming t v no_tree) (child_at ws x i) (all_kind ws 1 (child_at ws x i)))))

  -- on the way down to it: granted by what the run does here, or the run leads on from the children to the changed ones
  below_explained : {x : ℕ} {e : Edit} {s xs : List ℕ} {k l : Forest} → Fits ws x s xs → Conforms ws xs k → Makes ws e k l
      → Moves ws S (tree x s k bare) (tree x s l bare) → Granted ws S (privilege_of ws e) ⊎ Linked ws S k l
  below_explained (as_empty o e z) v m run = absurd (none_conforms (rw z at v) (makes_some m))
  below_explained (as_text o z) v m run = absurd (none_conforms (rw z at v) (makes_some m))
  below_explained (as_sequence o e z) v m run = inr (ahead (sequence_run run o))
  below_explained {x} {s = s} (as_star n o q z) v m run = elim (renews s (forth_run run (not_choice o)) (whence_run run (not_choice o))) [
    | inl r ↦ inl (inr (renewal x o r (makes_privilege ok m (rw z at v) (child_at ws x 0) (all_kind ws n (child_at ws x 0)))))
    | inr i ↦ inr i
  ]
  below_explained {x} (as_choice i o f q z) v m run = lone_explained o f (rw z at v) (makes_conforms m (rw z at v)) m run

  explained : {e : Edit} {xs : List ℕ} {f g : Forest} → ¬ SameKindEdit e → Makes ws e f g → Conforms ws xs f → f ≢ g → Linked ws S f g → Granted ws S (privilege_of ws e)
  explained other (at {f = f} m) v d h = at_explained m other d (linked_first f h)
  explained other (below {x = x} {s = s} {f = f} m) (conforming t v w) d h = elim (below_explained t v m (linked_first f h)) [
    | inl g ↦ g
    | inr i ↦ explained other m v (λ q. d (ap (λ (b : Forest). tree x s b f) q)) i
  ]
  explained other (beside {x = x} {s = s} {k = k} m) (conforming t v w) d h = explained other m w (λ q. d (ap (λ (b : Forest). tree x s k b) q)) (linked_rest h)

  -- so what leads from a forest to what an edit changes it to grants the edit
  pub explains : {e : Edit} {xs : List ℕ} {f g : Forest} → ¬ SameKindEdit e → Makes ws e f g → Conforms ws xs f → f ≢ g → Moves ws S f g → Granted ws S (privilege_of ws e)
  explains other m v d run = explained other m v d (ahead (moves_into run))
