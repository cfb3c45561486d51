-- Each type has one tree only, or two that are not the same: an empty type has one, a text two; a star two, with no child and with one; a choice two, of two
-- kinds, and if it is of one kind only what that one has; a sequence two if one of its children has two. Assumes nothing.
use Prim.Native.Nat.{ℕ, suc, ◌≤◌, ◌<◌}
use mathlib.Core.Path.{◌≡◌, refl, sym, ap, ◌∙◌}
use mathlib.Core.Logic.{◌≢◌, ◌⊎◌, inl, inr, ⊎_map}
use mathlib.Core.List.{List, [], ◌∷◌}
use native.Mathlib.Omega.{arith}
use lib.ListN.{length, get_or}
use Rattle.table.specs.Words.{types}
use Rattle.table.specs.Rule.{rule_at, children_at, child_at, count_of, OfKind, IsText, IsChoice, IsStar, Child}
use Rattle.table.specs.Check.{Accepted}
use Rattle.table.specs.declared.rule.Rule.{Rule}
use Rattle.table.specs.declared.rule.Rule.TheVariants.{Empty, Text, Sequence, Choice, Star}
use Rattle.table.proofs.Climbs.{from_children}
use Rattle.table.proofs.Facts.{facts, child_at_lem}
use Rattle.table.proofs.Lists.{le_or_lt}
use Rattle.meaning.specs.Trees.{Forest, bare, tree, Fits, as_text, as_sequence, as_choice, as_star, Conforms, no_tree, conforming, ConformsAt, Same}
use Rattle.meaning.specs.SameKind.{OneTree}
use Rattle.meaning.proofs.Putting.{Some, text_in, kids_of}
use Rattle.meaning.proofs.Orders.{same_sym, same_lone, same_bare, same_rest}
use Rattle.meaning.proofs.Conforming.{fits_as}
use Rattle.meaning.proofs.Growing.{Plant, row, child_of, plant, plant_child, Place, front}

-- there is one forest of the types xs only
abbrev One : List ℕ → List ℕ → Type 0
One ws xs = (f g : Forest) → Conforms ws xs f → Conforms ws xs g → f ≡ g

-- a forest of the types xs and one of the types ys, which are not the same
pub record Two (ws xs ys : List ℕ) : Type 0 where
  pub one : Forest
  pub other : Forest
  pub one_conforms : Conforms ws xs one
  pub other_conforms : Conforms ws ys other
  pub differ : ¬ Same one other

-- two trees of type x
abbrev pub TwoTrees : List ℕ → ℕ → Type 0
TwoTrees ws x = Two ws (x ∷ []) (x ∷ [])

module _ {ws : List ℕ} where
  pub two_back : {xs ys : List ℕ} → Two ws xs ys → Two ws ys xs
  two_back d = record { one = d.other; other = d.one; one_conforms = d.other_conforms; other_conforms = d.one_conforms; differ = λ a. d.differ (same_sym a) }

  -- none and one tree
  two_sizes : {y : ℕ} → Plant ws y → Two ws [] (y ∷ [])
  two_sizes p = record { one = bare; other = p.forest; one_conforms = no_tree; other_conforms = p.conforms; differ = λ a. same_bare a (some p.conforms) }
    where
      some : {y : ℕ} {t : Forest} → ConformsAt ws y t → Some t
      some (conforming t v no_tree) = tt

  -- trees of two types
  two_types : {y z : ℕ} → y ≢ z → Plant ws y → Plant ws z → Two ws (y ∷ []) (z ∷ [])
  two_types d p q = record {
    one = p.forest;
    other = q.forest;
    one_conforms = p.conforms;
    other_conforms = q.conforms;
    differ = λ a. d (types_same p.conforms q.conforms a);
  }
    where
      types_same : {y z : ℕ} {t u : Forest} → ConformsAt ws y t → ConformsAt ws z u → Same t u → y ≡ z
      types_same (conforming t v no_tree) (conforming u w no_tree) a = (same_lone a).0

  -- trees with two texts
  unfoldable pub two_texts : {x : ℕ} → IsText ws x → TwoTrees ws x
  two_texts {x} i = record {
    one = tree x [] bare bare;
    other = tree x (0 ∷ []) bare bare;
    one_conforms = conforming (as_text i refl) no_tree no_tree;
    other_conforms = conforming (as_text i refl) no_tree no_tree;
    differ = λ a. omega (arith, ap {A = List ℕ} length (same_lone a).1);
  }

  -- two trees in a place, below a root, and behind a tree
  unfoldable pub two_placed : {x : ℕ} {ys : List ℕ} → Place ws x ys → TwoTrees ws x → Two ws ys ys
  two_placed p d = record {
    one = p.plug d.one;
    other = p.plug d.other;
    one_conforms = p.conforms d.one d.one_conforms;
    other_conforms = p.conforms d.other d.other_conforms;
    differ = λ a. d.differ (p.tells d.one d.other d.one_conforms d.other_conforms a);
  }

  unfoldable pub two_over : {x : ℕ} {xs ys : List ℕ} → Fits ws x [] xs → Fits ws x [] ys → Two ws xs ys → TwoTrees ws x
  two_over {x} f g d = record {
    one = tree x [] d.one bare;
    other = tree x [] d.other bare;
    one_conforms = conforming f d.one_conforms no_tree;
    other_conforms = conforming g d.other_conforms no_tree;
    differ = λ a. d.differ (same_lone a).2;
  }

  two_behind : {x : ℕ} {xs ys : List ℕ} {t : Forest} → ConformsAt ws x t → Two ws xs ys → Two ws (x ∷ xs) (x ∷ ys)
  two_behind {x} (conforming {s = s} {k = k} t v no_tree) d = record {
    one = tree x s k d.one;
    other = tree x s k d.other;
    one_conforms = conforming t v d.one_conforms;
    other_conforms = conforming t v d.other_conforms;
    differ = λ a. d.differ (same_rest a);
  }

  -- one only of no tree, of one more, and below a root that is over one row of types only
  one_none : One ws []
  one_none f g no_tree no_tree = refl

  one_more : {x : ℕ} {xs : List ℕ} → OneTree ws x → One ws xs → One ws (x ∷ xs)
  one_more {x} o r f g (conforming {s = s} {k = k} {f = d} t v w) (conforming {s = q} {k = l} {f = e} u y z) =
      let first : tree x s k bare ≡ tree x q l bare = o _ _ (conforming t v no_tree) (conforming u y no_tree) in
      ap (λ (t : Forest). tree x (text_in t) (kids_of t) d) first ∙ ap (λ (h : Forest). tree x q l h) (r d e w z)

  one_over : {x : ℕ} {xs : List ℕ} → ((s ys : List ℕ) → Fits ws x s ys → (s ≡ []) × (ys ≡ xs)) → One ws xs → OneTree ws x
  one_over only o t u (conforming {s = s} {xs = ys} {k = k} f v no_tree) (conforming {s = r} {xs = zs} {k = l} g w no_tree) =
      let a = only s ys f in
      let b = only r zs g in
      let texts : s ≡ r = a.0 ∙ sym b.0 in
      let kids : k ≡ l = o k l (rw a.1 at v) (rw b.1 at w) in
      cc

  -- one only or two, of a row and below such a root
  row_trees : (xs : List ℕ) → ((i : ℕ) → i < length xs → Plant ws (get_or xs i 0)) → ((i : ℕ) → i < length xs → OneTree ws (get_or xs i 0) ⊎ TwoTrees ws (get_or xs i 0))
      → One ws xs ⊎ Two ws xs xs
  row_trees [] p h = inl one_none
  row_trees (x ∷ xs) p h = elim (h 0 (omega arith)) [
    | inr d ↦ inr (two_placed (front (row xs (λ i l. p (suc i) (omega arith)))) d)
    | inl o ↦ ⊎_map (one_more o) (two_behind (p 0 (omega arith)).conforms) (row_trees xs (λ i l. p (suc i) (omega arith)) (λ i l. h (suc i) (omega arith)))
  ]

  over_trees : {x : ℕ} {xs : List ℕ} → Fits ws x [] xs → ((s ys : List ℕ) → Fits ws x s ys → (s ≡ []) × (ys ≡ xs)) → One ws xs ⊎ Two ws xs xs
      → OneTree ws x ⊎ TwoTrees ws x
  over_trees f only h = ⊎_map (one_over only) (two_over f f) h

  pub empty_one : {x : ℕ} → OfKind ws x 0 → OneTree ws x
  empty_one o = one_over (λ s ys f. fits_as f o) one_none

module _ {ws : List ℕ} (ok : Accepted ws) where
  -- a tree more at a star, and another kind at a choice
  pub two_star : {x : ℕ} → IsStar ws x → Two ws [] (child_at ws x 0 ∷ [])
  two_star {x} s = two_sizes (plant_child ok s.type (omega (arith, (facts ok).star_one x s)))

  pub two_choice : {x i j : ℕ} → IsChoice ws x → i < count_of ws x → j < count_of ws x → i ≢ j → Two ws (child_at ws x i ∷ []) (child_at ws x j ∷ [])
  two_choice {x} {i} {j} c h k d = two_types (λ q. d ((facts ok).child_once x i j c.type h k q)) (plant_child ok c.type h) (plant_child ok c.type k)

  trees_up : (x : ℕ) → x < types ws → ((y : ℕ) → Child ws x y → OneTree ws y ⊎ TwoTrees ws y) → OneTree ws x ⊎ TwoTrees ws x
  trees_up x l more = by (rule_at ws x) refl
    where
      by : (rule : Rule) → rule_at ws x ≡ rule → OneTree ws x ⊎ TwoTrees ws x
      by Empty e = inl (empty_one (record { type = l; kind_is = rw e }))
      by Text e = inr (two_texts (record { type = l; kind_is = rw e }))
      by (Sequence a b) e =
          let o : OfKind ws x 2 = record { type = l; kind_is = rw e } in
          let kids = row_trees (children_at ws x) (λ i h. plant ok (child_at ws x i) (child_of ok l i h).inside) (λ i h. more (child_at ws x i) (child_of ok l i h)) in
          over_trees (as_sequence o refl refl) (λ s ys f. fits_as f o) kids
      by (Choice a b) e =
          let c : IsChoice ws x = record { type = l; kind_is = rw e } in
          let some = (facts ok).choice_some x c in
          elim (le_or_lt (count_of ws x) 1) [
            | inl h ↦ over_trees (as_choice 0 c some refl refl) (λ s ys f. lone h (fits_as f c)) (more (child_at ws x 0) (child_at_lem ok x 0 l some))
            | inr h ↦ inr (two_over (as_choice 0 c some refl refl) (as_choice 1 c h refl refl) (two_choice c some h (λ q. omega arith)))
          ]
        where
          lone : count_of ws x ≤ 1 → {s ys : List ℕ} → (s ≡ []) × (i : ℕ) × (i < count_of ws x) × (ys ≡ child_at ws x i ∷ [])
              → (s ≡ []) × (ys ≡ child_at ws x 0 ∷ [])
          lone h (e, i, k, z) = let first : i ≡ 0 = omega arith in (e, rw first at z)
      by (Star a b) e = let s : IsStar ws x = record { type = l; kind_is = rw e } in inr (two_over (as_star 0 s refl refl) (as_star 1 s refl refl) (two_star s))

  -- each type has one tree only, or two that differ
  pub trees_of : (x : ℕ) → x < types ws → OneTree ws x ⊎ TwoTrees ws x
  trees_of x l = from_children (facts ok).off_cycle trees_up x l
