-- To be the same up to the order of siblings is the least equivalence for which neighbours may change places, at every depth; and what an edit makes of
-- one of two such forests it makes of the other, up to order. So the paper's unordered trees are our trees up to order. Assumes nothing.
use Prim.Native.Nat.{ℕ, ◌≤◌}
use mathlib.Core.Path.{◌≡◌, refl}
use mathlib.Core.List.{List}
use native.Mathlib.Omega.{arith}
use Rattle.table.specs.Privilege.{Edit}
use Rattle.meaning.specs.Trees.{Forest, bare, tree, Put, put_first, put_later, Same, same_none, same_tree}
use Rattle.meaning.specs.Edits.{AtNode, set_text, put_in, put_out, put_anew, put_for, Makes, at, below, beside}
use Rattle.meaning.proofs.Putting.{Some, put_swap, anew_puts, put_room}
use Rattle.meaning.proofs.Matching.{Into, into_none, into_tree, into_size, into_cancel, into_first, size, size_put}

pub same_refl : (t : Forest) → Same t t
same_refl bare = same_none
same_refl (tree x s k f) = same_tree (same_refl k) (same_refl f) put_first

-- a tree put in on both sides
same_put : {x : ℕ} {s : List ℕ} {k l f g h : Forest} → Put x s l g h → Same l k → Same g f → Same h (tree x s k f)
same_put put_first a b = same_tree a b put_first
same_put (put_later q) a (same_tree c d p) = same_tree c (same_put q a d) (put_later p)

pub same_sym : {t u : Forest} → Same t u → Same u t
same_sym same_none = same_none
same_sym (same_tree a b q) = same_put q (same_sym a) (same_sym b)

-- the tree that stands for one put in
record Found (x : ℕ) (s : List ℕ) (l g h : Forest) : Type 0 where
  kids : Forest
  rest : Forest
  kids_same : Same l kids
  rest_same : Same g rest
  there : Put x s kids rest h

found : {x : ℕ} {s : List ℕ} {l g h c : Forest} → Put x s l g h → Same h c → Found x s l g c
found put_first (same_tree a b q) = record { kids = _; rest = _; kids_same = a; rest_same = b; there = q }
found (put_later p) (same_tree a b q) =
    let r = found p b in
    let w = put_swap r.there q in
    record { kids = r.kids; rest = w.between; kids_same = r.kids_same; rest_same = same_tree a r.rest_same w.one; there = w.other }

pub same_trans : {t u v : Forest} → Same t u → Same u v → Same t v
same_trans same_none w = w
same_trans (same_tree a b q) w =
    let r = found q w in
    same_tree (same_trans a r.kids_same) (same_trans b r.rest_same) r.there

-- an equivalence for which neighbours may change places, at every depth
pub record Reorders (E : Forest → Forest → Type 0) : Type 0 where
  pub self : (t : Forest) → E t t
  pub back : (t u : Forest) → E t u → E u t
  pub on : (t u v : Forest) → E t u → E u v → E t v
  pub deep : (x : ℕ) (s : List ℕ) (k l f g : Forest) → E k l → E f g → E (tree x s k f) (tree x s l g)
  pub swap : (x y : ℕ) (s r : List ℕ) (k l f : Forest) → E (tree x s k (tree y r l f)) (tree y r l (tree x s k f))

pub same_reorders : Reorders Same
same_reorders = record {
  self = same_refl;
  back = λ t u a. same_sym a;
  on = λ t u v a b. same_trans a b;
  deep = λ x s k l f g a b. same_tree a b put_first;
  swap = λ x y s r k l f. same_tree (same_refl k) (same_refl (tree y r l f)) (put_later put_first);
}

-- and it is the least of them
module _ {E : Forest → Forest → Type 0} (r : Reorders E) where
  put_least : {x : ℕ} {s : List ℕ} {k f g : Forest} → Put x s k f g → E (tree x s k f) g
  put_least {x} {s} {k} {f} put_first = r.self (tree x s k f)
  put_least {x} {s} {k} (put_later {y = y} {r = w} {l = l} {f = f} {g = g} q) =
      r.on _ (tree y w l (tree x s k f)) _ (r.swap x y s w k l f) (r.deep y w l l (tree x s k f) g (r.self l) (put_least q))

  pub same_least : {t u : Forest} → Same t u → E t u
  same_least same_none = r.self bare
  same_least (same_tree {x} {s} {k} {l} {f} {g} {h} a b q) = r.on _ (tree x s l g) h (r.deep x s k l f g (same_least a) (same_least b)) (put_least q)

-- what is alike of two trees that are the same; and there is none where there is no tree
pub same_lone : {x y : ℕ} {s r : List ℕ} {k l : Forest} → Same (tree x s k bare) (tree y r l bare) → (x ≡ y) × (s ≡ r) × Same k l
same_lone (same_tree a same_none put_first) = (refl, refl, a)

pub same_bare : {f : Forest} → Same bare f → ¬ Some f
same_bare same_none s = s

-- forests are the same if their trees are, one to one
pub same_into : {M : Forest → Forest → Type 0} → ((t u : Forest) → Same t u → M t u) → {f g : Forest} → Same f g → Into M f g
same_into h same_none = into_none
same_into h (same_tree a b q) = into_tree (h _ _ (same_tree a same_none put_first)) (same_into h b) q

into_same : {f g : Forest} → Into Same f g → size g ≤ size f → Same f g
unfolding size
into_same {g = bare} into_none h = same_none
into_same {g = tree x s k f} into_none h = absurd (omega arith)
into_same (into_tree (same_tree a same_none put_first) i q) h = same_tree a (into_same i (omega (arith, size_put q))) q

-- so the same tree in front cancels, and so do the same trees behind
same_less : {x : ℕ} {s : List ℕ} {k f g : Forest} → Same (tree x s k f) (tree x s k g) → Into Same f g
same_less a = into_cancel (λ t u v b c. same_trans b c) (same_into (λ t u b. b) a) put_first put_first

pub same_rest : {x : ℕ} {s : List ℕ} {k f g : Forest} → Same (tree x s k f) (tree x s k g) → Same f g
same_rest a = into_same (same_less a) (into_size (same_less (same_sym a)))

pub same_first : {x y : ℕ} {s r : List ℕ} {k l : Forest} (f : Forest) → Same (tree x s k f) (tree y r l f) → Same (tree x s k bare) (tree y r l bare)
same_first f a = into_first (λ t u v b c. same_trans b c) f (same_into (λ t u b. b) a)

-- an edit of a forest, made on another
pub record Follows (ws : List ℕ) (e : Edit) (g h : Forest) : Type 0 where
  pub result : Forest
  pub made : Makes ws e g result
  pub alike : Same h result

-- at a node, from the same text and children in another order
record FollowsAt (ws : List ℕ) (x : ℕ) (e : Edit) (s : List ℕ) (l : Forest) (r : List ℕ) (k : Forest) : Type 0 where
  result : Forest
  made : AtNode ws x e s l r result
  alike : Same k result

-- where a tree was put in, another is, and the edit is between the two
record Changed (ws : List ℕ) (e : Edit) (x : ℕ) (r : List ℕ) (l g h : Forest) : Type 0 where
  result : Forest
  put : Put x r l g result
  made : Makes ws e h result

lone_same : {x : ℕ} {s : List ℕ} {k u : Forest} → Same (tree x s k bare) u → (l : Forest) × (u ≡ tree x s l bare)
lone_same (same_tree {l = l} a same_none put_first) = (l, refl)

at_follows : {ws : List ℕ} {e : Edit} {x : ℕ} {s r : List ℕ} {k l m : Forest} → Same k l → AtNode ws x e s k r m → FollowsAt ws x e s l r m
at_follows {l = l} a (set_text i) = record { result = l; made = set_text i; alike = a }
at_follows {l = l} a (put_in {y = y} {r = r} {m = m} i h v q) = record { result = tree y r m l; made = put_in i h v put_first; alike = same_put q (same_refl m) a }
at_follows a (put_out i q) = let f = found q a in record { result = f.rest; made = put_out i f.there; alike = f.rest_same }
at_follows a (put_anew {r = r} {m = m} c y v q) =
    let p = anew_puts q in
    let f = found p.old a in
    let n = put_room r m f.there in
    record {
      result = n.result;
      made = put_anew c y v n.anew;
      alike = same_trans (same_put p.new (same_refl m) f.rest_same) (same_tree (same_refl m) (same_refl f.rest) n.put);
    }
at_follows a (put_for {z = z} {q = q} {n = n} o g h v) =
    let l = lone_same a in
    record { result = tree z q n bare; made = rw l.1 (put_for o g h v); alike = same_refl (tree z q n bare) }

module _ {ws : List ℕ} {e : Edit} where
  put_changed : {x : ℕ} {s r : List ℕ} {l m g h : Forest} → ((f : Forest) → Makes ws e (tree x s l f) (tree x r m f)) → Put x s l g h → Changed ws e x r m g h
  put_changed {x} {r = r} {m = m} {g = g} c put_first = record { result = tree x r m g; put = put_first; made = c g }
  put_changed c (put_later {y = y} {r = w} {l = n} q) =
      let i = put_changed c q in
      record { result = tree y w n i.result; put = put_later i.put; made = beside i.made }

  put_beside : {x : ℕ} {s : List ℕ} {l g h i : Forest} → Put x s l g h → Makes ws e g i → Changed ws e x s l i h
  put_beside {x} {s} {l} {i = i} put_first m = record { result = tree x s l i; put = put_first; made = beside m }
  put_beside (put_later q) (at m) = record { result = tree _ _ _ _; put = put_later q; made = at m }
  put_beside (put_later q) (below m) = record { result = tree _ _ _ _; put = put_later q; made = below m }
  put_beside (put_later {y = y} {r = w} {l = n} q) (beside m) =
      let i = put_beside q m in
      record { result = tree y w n i.result; put = put_later i.put; made = beside i.made }

  pub same_makes : {f g h : Forest} → Same f g → Makes ws e f h → Follows ws e g h
  same_makes same_none m = elim m [ ]
  same_makes (same_tree a b q) (at m) =
      let i = at_follows a m in
      let c = put_changed (λ f. at i.made) q in
      record { result = c.result; made = c.made; alike = same_tree i.alike b c.put }
  same_makes (same_tree a b q) (below m) =
      let i = same_makes a m in
      let c = put_changed (λ f. below i.made) q in
      record { result = c.result; made = c.made; alike = same_tree i.alike b c.put }
  same_makes (same_tree a b q) (beside m) =
      let i = same_makes b m in
      let c = put_beside q i.made in
      record { result = c.result; made = c.made; alike = same_tree a i.alike c.put }
