-- The trees of one forest, one to one, lead to trees of another. What stands on both sides cancels. Assumes nothing.
use Prim.Native.Nat.{ℕ, zero, suc, ◌≤◌}
use mathlib.Core.Path.{◌≡◌, refl, ap}
use mathlib.Core.Logic.{◌⊎◌, inl, inr, ⊎_map}
use mathlib.Core.List.{List}
use native.Mathlib.Omega.{arith}
use Rattle.meaning.specs.Trees.{Forest, bare, tree, Put, put_first, put_later, Anew, anew_first, anew_later}
use Rattle.meaning.proofs.Putting.{put_some, put_swap, TwoPut, one_place, two_places, two_puts}

-- M leads from each tree of the first forest to a tree of its own of the second
pub data Into (M : Forest → Forest → Type 0) : Forest → Forest → Type 0 where
  into_none : {g : Forest} → Into M bare g
  into_tree : {x y : ℕ} {s r : List ℕ} {k l f g h : Forest} → M (tree x s k bare) (tree y r l bare) → Into M f g → Put y r l g h → Into M (tree x s k f) h

abbrev pub Reflexive : (Forest → Forest → Type 0) → Type 0
Reflexive M = (t : Forest) → M t t

abbrev pub Transitive : (Forest → Forest → Type 0) → Type 0
Transitive M = (t u v : Forest) → M t u → M u v → M t v

-- how many trees
unfoldable pub size : Forest → ℕ
size bare = zero
size (tree x s k f) = suc (size f)

pub size_put : {x : ℕ} {s : List ℕ} {k f g : Forest} → Put x s k f g → size g ≡ suc (size f)
unfolding size
size_put put_first = refl
size_put (put_later q) = ap suc (size_put q)

module _ {M : Forest → Forest → Type 0} where
  pub into_size : {f g : Forest} → Into M f g → size f ≤ size g
  unfolding size
  into_size into_none = omega arith
  into_size (into_tree m i q) = omega (arith, into_size i, size_put q)

  pub into_self : Reflexive M → (f : Forest) → Into M f f
  into_self same bare = into_none
  into_self same (tree x s k f) = into_tree (same (tree x s k bare)) (into_self same f) put_first

  -- to a forest with one more, from a forest with one less
  pub into_more : {x : ℕ} {s : List ℕ} {k f g h : Forest} → Into M f g → Put x s k g h → Into M f h
  into_more into_none p = into_none
  into_more (into_tree m i q) p = let w = put_swap q p in into_tree m (into_more i w.one) w.other

  pub into_less : {x : ℕ} {s : List ℕ} {k e f g : Forest} → Into M f g → Put x s k e f → Into M e g
  into_less into_none p = elim p [ ]
  into_less (into_tree m i q) put_first = into_more i q
  into_less (into_tree m i q) (put_later p) = into_tree m (into_less i p) q

  -- one tree to one tree
  pub into_lone : {x y : ℕ} {s r : List ℕ} {k l : Forest} → Into M (tree x s k bare) (tree y r l bare) → M (tree x s k bare) (tree y r l bare)
  into_lone (into_tree m i put_first) = m
  into_lone (into_tree m i (put_later q)) = absurd (put_some q)

-- by M all the way, or E holds
pub into_either : {M : Forest → Forest → Type 0} {E : Type 0} {f g : Forest} → Into (λ t u. M t u ⊎ E) f g → Into M f g ⊎ E
into_either into_none = inl into_none
into_either (into_tree (inl m) i q) = ⊎_map (λ j. into_tree m j q) (λ e. e) (into_either i)
into_either (into_tree (inr e) i q) = inr e

-- the trees of two forests, one to one
pub record Matched (M : Forest → Forest → Type 0) (f g : Forest) : Type 0 where
  pub forth : Into M f g
  pub back : Into (λ t u. M u t) g f

module _ {M : Forest → Forest → Type 0} where
  pub matched_self : Reflexive M → (f : Forest) → Matched M f f
  matched_self same f = record { forth = into_self same f; back = into_self same f }

  pub matched_tree : {x y : ℕ} {s r : List ℕ} {k l f g : Forest} → M (tree x s k bare) (tree y r l bare) → Matched M f g → Matched M (tree x s k f) (tree y r l g)
  matched_tree m i = record { forth = into_tree m i.forth put_first; back = into_tree m i.back put_first }

  -- where M leads from any tree to any other, one may be in another's place
  pub matched_anew : ((t u : Forest) → M t u) → {x : ℕ} {s : List ℕ} {k f g : Forest} → Anew x s k f g → Matched M f g
  matched_anew any (anew_first {f = f}) = matched_tree (any _ _) (matched_self (λ t. any t t) f)
  matched_anew any (anew_later q) = matched_tree (any _ _) (matched_anew any q)

-- by M to a forest, and by N from there on
pub record Onward (N : Forest → Forest → Type 0) (t f h : Forest) : Type 0 where
  pub type : ℕ
  pub text : List ℕ
  pub kids : Forest
  pub rest : Forest
  pub leads : N t (tree type text kids bare)
  pub rest_leads : Into N f rest
  pub there : Put type text kids rest h

onward : {N : Forest → Forest → Type 0} {x : ℕ} {s : List ℕ} {k f g h : Forest} → Put x s k f g → Into N g h → Onward N (tree x s k bare) f h
onward put_first (into_tree n i q) = record { type = _; text = _; kids = _; rest = _; leads = n; rest_leads = i; there = q }
onward (put_later p) (into_tree n i q) =
    let o = onward p i in
    let w = put_swap o.there q in
    record {
      type = o.type;
      text = o.text;
      kids = o.kids;
      rest = w.between;
      leads = o.leads;
      rest_leads = into_tree n o.rest_leads w.one;
      there = w.other;
    }

pub into_join : {L M N : Forest → Forest → Type 0} → ((t u v : Forest) → M t u → N u v → L t v) → {f g h : Forest} → Into M f g → Into N g h → Into L f h
into_join join into_none j = into_none
into_join join (into_tree m i q) j =
    let o = onward q j in
    into_tree (join _ _ _ m o.leads) (into_join join i o.rest_leads) o.there

module _ {M : Forest → Forest → Type 0} (trans : Transitive M) where
  instead : {x y a z : ℕ} {s r w v : List ℕ} {k l b c d f g h : Forest} → M (tree a w b bare) (tree z v c bare) → Into M f g
      → ((e h : Forest) → Put x s k e g → Put y r l e h → Into M f h) → TwoPut z v c x s k g d → M (tree x s k bare) (tree y r l bare) → Put y r l d h
      → Into M (tree a w b f) h
  instead m i again one_place n o = into_tree (trans _ _ _ m n) i o
  instead m i again (two_places {e = e} p q) n o = let w = put_swap q o in into_tree m (again e w.between p w.one) w.other

  -- where M leads on from one tree to another, that one may stand for it
  into_instead : {x y : ℕ} {s r : List ℕ} {k l d f g h : Forest} → Into M f g → Put x s k d g → M (tree x s k bare) (tree y r l bare) → Put y r l d h
      → Into M f h
  into_instead into_none p n o = into_none
  into_instead (into_tree m i q) p n o = instead m i (λ e h w z. into_instead i w n z) (two_puts q p) n o

  after : {y z b : ℕ} {r w c : List ℕ} {l v d e f h : Forest} → M (tree z w v bare) (tree b c d bare) → Put b c d f h → Into M (tree y r l e) f
      → Into M (tree y r l (tree z w v e)) h
  after m q (into_tree n j p) = let o = put_swap p q in into_tree n (into_tree m j o.one) o.other

  -- where M leads from another tree to one, that one may stand for it
  into_from : {x y : ℕ} {s r : List ℕ} {k l e f g : Forest} → M (tree y r l bare) (tree x s k bare) → Into M f g → Put x s k e f → Into M (tree y r l e) g
  into_from n into_none p = elim p [ ]
  into_from n (into_tree m i q) put_first = into_tree (trans _ _ _ n m) i q
  into_from n (into_tree m i q) (put_later p) = after m q (into_from n i p)

  first : {x y : ℕ} {s r : List ℕ} {k l f g h : Forest} → M (tree x s k bare) (tree y r l bare) → Into M f g → TwoPut y r l x s k g h → Into M f h
  first m i one_place = i
  first m i (two_places p q) = into_instead i p m q

  later : {x y z : ℕ} {s r w : List ℕ} {k l v e f g h : Forest} → M (tree z w v bare) (tree y r l bare) → Into M f g → Put x s k e f
      → ((d : Forest) → Put x s k d g → Into M e d) → TwoPut y r l x s k g h → Into M (tree z w v e) h
  later m i o again one_place = into_from m i o
  later m i o again (two_places {e = d} p q) = into_tree m (again d p) q

  -- a tree that stands on both sides cancels
  pub into_cancel : {x : ℕ} {s : List ℕ} {k e f g h : Forest} → Into M f g → Put x s k e f → Put x s k h g → Into M e h
  into_cancel into_none o p = elim o [ ]
  into_cancel (into_tree m i q) put_first p = first m i (two_puts q p)
  into_cancel (into_tree m i q) (put_later o) p = later m i o (λ d w. into_cancel i o w) (two_puts q p)

  -- the same trees behind the first cancel
  pub into_first : {x y : ℕ} {s r : List ℕ} {k l : Forest} (f : Forest) → Into M (tree x s k f) (tree y r l f) → M (tree x s k bare) (tree y r l bare)
  into_first bare i = into_lone i
  into_first (tree z w m f) i = into_first f (into_cancel i (put_later put_first) (put_later put_first))
