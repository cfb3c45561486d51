-- Edits that replace an element by one of its own kind: which they are, that a table of format 1 has none, and that they change nothing where there is one
-- tree of the kind only. Assumes nothing.
use Prim.Native.Nat.{ℕ}
use mathlib.Core.Path.{◌≡◌, sym, ap, subst, ◌∙◌}
use mathlib.Core.Logic.{◌⊎◌, inl, inr}
use mathlib.Core.List.{List}
use native.Mathlib.Decide.{ℕ_discrete}
use native.Mathlib.Omega.{arith}
use Rattle.table.specs.Words.{format_of}
use Rattle.table.specs.Rule.{child_at}
use Rattle.table.specs.Privilege.{Edit, text, insert, delete, exchange, replace, Offers}
use Rattle.meaning.specs.Trees.{Forest, bare, tree, Conforms, no_tree, conforming, ConformsAt, Anew, anew_first, anew_later}
use Rattle.meaning.specs.Edits.{AtNode, set_text, put_in, put_out, put_anew, put_for, Makes, at, below, beside}
use Rattle.meaning.specs.SameKind.{SameKindEdit, OneTree, Idle}
use Rattle.meaning.proofs.Putting.{text_in, kids_of}

pub whether_same_kind : (e : Edit) → SameKindEdit e ⊎ (¬ SameKindEdit e)
whether_same_kind (text x) = inr (λ h. h)
whether_same_kind (insert x) = inr (λ h. h)
whether_same_kind (delete x) = inr (λ h. h)
whether_same_kind (exchange x) = inl tt
whether_same_kind (replace x i j) = elim (ℕ_discrete i j) [ yes e ↦ inl e | no d ↦ inr d ]

pub format_one : (ws : List ℕ) → format_of ws ≡ 1 → (e : Edit) → Offers ws e → ¬ SameKindEdit e
format_one ws one (text x) o h = h
format_one ws one (insert x) o h = h
format_one ws one (delete x) o h = h
format_one ws one (exchange x) o h = omega (arith, o.same_kind)
format_one ws one (replace x i j) o h = omega (arith, o.same_kind h)

-- where there is one tree of the kind only, such an edit changes nothing
module _ {ws : List ℕ} where
  anew_still : {y : ℕ} {r : List ℕ} {m : Forest} {xs : List ℕ} {k l : Forest} → OneTree ws y → Anew y r m k l → ConformsAt ws y (tree y r m bare) → Conforms ws xs k → k ≡ l
  anew_still {y} o (anew_first {f = f}) c (conforming t v w) = ap (λ (t : Forest). tree y (text_in t) (kids_of t) f) (o _ _ (conforming t v no_tree) c)
  anew_still o (anew_later {y = y} {r = r} {l = l} q) c (conforming t v w) = ap (λ (h : Forest). tree y r l h) (anew_still o q c w)

  at_still : {x : ℕ} {e : Edit} {s r xs : List ℕ} {k l : Forest} (f : Forest) → Idle ws e → AtNode ws x e s k r l → Conforms ws xs k → tree x s k f ≡ tree x r l f
  at_still f h (set_text i) v = absurd h.same_kind
  at_still f h (put_in i y w q) v = absurd h.same_kind
  at_still f h (put_out i q) v = absurd h.same_kind
  at_still {x} {s = s} f h (put_anew c y w q) v = ap (λ (k : Forest). tree x s k f) (anew_still (rw y h.one_tree) q w v)
  at_still {x} {s = s} f h (put_for {y = y} {z = z} {q = q} {n = n} o g b w) (conforming t v no_tree) =
      let is : z ≡ y = b ∙ ap (λ (a : ℕ). child_at ws x a) (sym h.same_kind) ∙ sym g in
      let one : OneTree ws y = rw g h.one_tree in
      ap (λ (k : Forest). tree x s k f) (one _ _ (conforming t v no_tree) (subst (λ (c : ℕ). ConformsAt ws c (tree z q n bare)) is w))

  pub idle_still : {e : Edit} {xs : List ℕ} {f g : Forest} → Idle ws e → Makes ws e f g → Conforms ws xs f → f ≡ g
  idle_still h (at {f = f} m) (conforming t v w) = at_still f h m v
  idle_still h (below {x = x} {s = s} {f = f} m) (conforming t v w) = ap (λ (k : Forest). tree x s k f) (idle_still h m v)
  idle_still h (beside {x = x} {s = s} {k = k} m) (conforming t v w) = ap (λ (g : Forest). tree x s k g) (idle_still h m w)
