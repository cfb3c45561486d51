-- What is granted is imitated, on a document that is built for it, but for an edit that replaces an element by one of its own kind where there is one
-- tree of the kind only. An allowed edit imitates itself. At a star whose insert and delete, or whose exchange, are allowed its child is renewed; at
-- a choice replacements lead along the chain, or round the cycle to the changed child. The order of siblings is kept. Assumes nothing.
use Prim.Native.Nat.{ℕ, ◌<◌}
use mathlib.Core.Path.{◌≡◌, refl, subst}
use mathlib.Core.Logic.{◌⊎◌, inl, inr, ⊎_map}
use mathlib.Core.List.{List, [], ◌∷◌}
use native.Mathlib.Decide.{ℕ_discrete}
use native.Mathlib.Omega.{arith}
use Rattle.table.specs.Plus.{last, next}
use Rattle.table.specs.Words.{types, root}
use Rattle.table.specs.Rule.{child_at, count_of, IsChoice, IsStar}
use Rattle.table.specs.Privilege.{Exchangeable, Replaceable, Edit, text, insert, delete, exchange, replace, type_of, Offers, privilege_of}
use Rattle.table.specs.Check.{Accepted}
use Rattle.table.proofs.Facts.{facts}
use Rattle.table.proofs.Privileges.{belongs_one, edit_belongs, edit_one}
use Rattle.policy.specs.Reached.{Reached}
use Rattle.policy.specs.Renewed.{Renewed, by_both, by_exchange}
use Rattle.policy.proofs.Reaches.{reached_from}
use Rattle.verdict.specs.Below.{PrivilegeBelow}
use Rattle.verdict.specs.Forces.{Forces, renewal, chain, cycle}
use Rattle.verdict.specs.Forces as forces
use Rattle.completion.specs.Granted.{Granted}
use Rattle.meaning.specs.Trees.{Forest, bare, tree, Fits, as_choice, as_star, Conforms, no_tree, conforming, ConformsAt, put_first, anew_first}
use Rattle.meaning.specs.Edits.{set_text, put_in, put_out, put_anew, put_for, Makes, at, below, Leads, stay, go}
use Rattle.meaning.specs.SameKind.{Idle}
use Rattle.meaning.proofs.Growing.{plant_child, Place, place, document_place}
use Rattle.meaning.proofs.Differing.{Two, TwoTrees, two_back, two_texts, two_placed, two_over, two_star, two_choice, trees_of}

-- a tree of type x that an edit changes
pub record Case (ws : List ℕ) (e : Edit) (x : ℕ) : Type 0 where
  pub trees : TwoTrees ws x
  pub made : Makes ws e trees.one trees.other

-- a document that the edit changes, and edits by S lead to what it makes of it
pub record Shown (ws : List ℕ) (S : ℕ → Type 0) (e : Edit) : Type 0 where
  pub case : Case ws e (root ws)
  pub run : Leads ws S case.trees.one case.trees.other

-- a node of type x over a forest
abbrev over : ℕ → Forest → Forest
over x k = tree x [] k bare

-- at a node of type x edits by S lead from any tree of type y to any tree of type z
abbrev LeadsOver : List ℕ → (ℕ → Type 0) → ℕ → ℕ → ℕ → Type 0
LeadsOver ws S x y z = (t u : Forest) → ConformsAt ws y t → ConformsAt ws z u → Leads ws S (over x t) (over x u)

module _ {ws : List ℕ} where
  none_fits : {x : ℕ} → IsStar ws x → Fits ws x [] []
  none_fits s = as_star 0 s refl refl

  one_fits : {x : ℕ} → IsStar ws x → Fits ws x [] (child_at ws x 0 ∷ [])
  one_fits s = as_star 1 s refl refl

  kind_fits : {x i : ℕ} → IsChoice ws x → i < count_of ws x → Fits ws x [] (child_at ws x i ∷ [])
  kind_fits {i = i} s l = as_choice i s l refl refl

  star_insert : {x : ℕ} {t u : Forest} → IsStar ws x → Conforms ws [] t → ConformsAt ws (child_at ws x 0) u → Makes ws (insert x) (over x t) (over x u)
  star_insert s no_tree (conforming u w no_tree) = at (put_in s refl (conforming u w no_tree) put_first)

  star_delete : {x : ℕ} {t u : Forest} → IsStar ws x → ConformsAt ws (child_at ws x 0) t → Conforms ws [] u → Makes ws (delete x) (over x t) (over x u)
  star_delete s (conforming t v no_tree) no_tree = at (put_out s put_first)

  star_exchange : {x : ℕ} {t u : Forest} → Exchangeable ws x → ConformsAt ws (child_at ws x 0) t → ConformsAt ws (child_at ws x 0) u
      → Makes ws (exchange x) (over x t) (over x u)
  star_exchange c (conforming t v no_tree) (conforming u w no_tree) = at (put_anew c refl (conforming u w no_tree) anew_first)

  choice_replace : {x i j : ℕ} {t u : Forest} → Replaceable ws x i j → ConformsAt ws (child_at ws x i) t → ConformsAt ws (child_at ws x j) u
      → Makes ws (replace x i j) (over x t) (over x u)
  choice_replace o (conforming t v no_tree) (conforming u w no_tree) = at (put_for o refl refl (conforming u w no_tree))

  -- an edit at a node, and one below it
  at_case : {e : Edit} {x : ℕ} {xs ys : List ℕ} → Fits ws x [] xs → Fits ws x [] ys → (d : Two ws xs ys) → Makes ws e (over x d.one) (over x d.other) → Case ws e x
  unfolding two_over
  at_case f g d m = record { trees = two_over f g d; made = m }

  over_case : {e : Edit} {x y : ℕ} → Fits ws x [] (y ∷ []) → Case ws e y → Case ws e x
  unfolding two_over
  over_case f c = record { trees = two_over f f c.trees; made = below c.made }

  -- the same edit in a place
  placed : {e : Edit} {x y : ℕ} → Place ws x (y ∷ []) → Case ws e x → Case ws e y
  unfolding two_placed
  placed {e} p c = record { trees = two_placed p c.trees; made = p.makes e c.trees.one c.trees.other c.made }

  leads_placed : {S : ℕ → Type 0} {x y : ℕ} (p : Place ws x (y ∷ [])) {t u : Forest} → Leads ws S t u → Leads ws S (p.plug t) (p.plug u)
  leads_placed p stay = stay
  leads_placed p (go {t = t} {u = u} e a m l) = go e a (p.makes e t u m) (leads_placed p l)

module _ {ws : List ℕ} (ok : Accepted ws) where
  -- trees that an exchange or a replacement tells apart; or it is idle
  exchange_trees : {x : ℕ} → Exchangeable ws x → TwoTrees ws (child_at ws x 0) ⊎ Idle ws (exchange x)
  exchange_trees {x} c = elim (trees_of ok (child_at ws x 0) ((facts ok).child_inside x 0 c.star.type (omega (arith, (facts ok).star_one x c.star)))) [
    | inl o ↦ inr (record { same_kind = tt; one_tree = o })
    | inr d ↦ inl d
  ]

  replace_trees : {x i j : ℕ} → Replaceable ws x i j → Two ws (child_at ws x i ∷ []) (child_at ws x j ∷ []) ⊎ Idle ws (replace x i j)
  replace_trees {x} {i} {j} o = elim (ℕ_discrete i j) [
    | no d ↦ inl (two_choice ok o.choice o.from o.to d)
    | yes e ↦ elim (trees_of ok (child_at ws x i) ((facts ok).child_inside x i o.choice.type o.from)) [
      | inl t ↦ inr (record { same_kind = e; one_tree = t })
      | inr d ↦ inl (subst (λ (k : ℕ). Two ws (child_at ws x i ∷ []) (child_at ws x k ∷ [])) e d)
    ]
  ]

  -- each edit of the table changes some tree of its type, or it is idle
  case_of : (e : Edit) → Offers ws e → Case ws e (type_of e) ⊎ Idle ws e
  unfolding two_texts
  case_of (text x) i = inl (record { trees = two_texts i; made = at (set_text i) })
  case_of (insert x) i = let d = two_star ok i in inl (at_case (none_fits i) (one_fits i) d (star_insert i d.one_conforms d.other_conforms))
  case_of (delete x) i = let d = two_back (two_star ok i) in inl (at_case (one_fits i) (none_fits i) d (star_delete i d.one_conforms d.other_conforms))
  case_of (exchange x) c = ⊎_map (λ d. at_case (one_fits c.star) (one_fits c.star) d (star_exchange c d.one_conforms d.other_conforms)) (λ h. h) (exchange_trees c)
  case_of (replace x i j) o =
      ⊎_map (λ d. at_case (kind_fits o.choice o.from) (kind_fits o.choice o.to) d (choice_replace o d.one_conforms d.other_conforms)) (λ h. h) (replace_trees o)

  -- an edit whose privilege is below a type changes some tree of that type, or it is idle
  below_case : {y : ℕ} (e : Edit) → Offers ws e → PrivilegeBelow ws (privilege_of ws e) y → Case ws e y ⊎ Idle ws e
  below_case e o w =
      let is : w.type ≡ type_of e = belongs_one w.belongs (edit_belongs ws e o) in
      ⊎_map (placed (place ok (rw is at w.below))) (λ h. h) (case_of e o)

  -- where edits lead from the old tree to the new one, they do so in a document
  in_document : {S : ℕ → Type 0} {e : Edit} {x : ℕ} → x < types ws → (c : Case ws e x) → Leads ws S c.trees.one c.trees.other → Shown ws S e
  unfolding placed two_placed
  in_document {x = x} l c run = let p = document_place ok x l in record { case = placed p c; run = leads_placed p run }

  -- so at a node where they lead from any tree to any other, for an edit there and for one below
  at_shown : {S : ℕ → Type 0} {e : Edit} {x y z : ℕ} → x < types ws → Fits ws x [] (y ∷ []) → Fits ws x [] (z ∷ []) → LeadsOver ws S x y z → (d : Two ws (y ∷ []) (z ∷ []))
      → Makes ws e (over x d.one) (over x d.other) → Shown ws S e
  unfolding at_case two_over
  at_shown l f g leads d m = in_document l (at_case f g d m) (leads d.one d.other d.one_conforms d.other_conforms)

  below_shown : {S : ℕ → Type 0} {e : Edit} {x y : ℕ} → x < types ws → Fits ws x [] (y ∷ []) → LeadsOver ws S x y y → Case ws e y → Shown ws S e
  unfolding over_case two_over
  below_shown l f leads c = in_document l (over_case f c) (leads c.trees.one c.trees.other c.trees.one_conforms c.trees.other_conforms)

  -- at a star that is renewed, and at a choice along replacements
  renewal_leads : {S : ℕ → Type 0} {x : ℕ} → IsStar ws x → Renewed ws S x → LeadsOver ws S x (child_at ws x 0) (child_at ws x 0)
  renewal_leads {x = x} s (by_both b) t u c d = go (delete x) b.delete (star_delete s c no_tree) (go (insert x) b.insert (star_insert s no_tree d) stay)
  renewal_leads {x = x} s (by_exchange e a) t u c d = go (exchange x) a (star_exchange e c d) stay

  chain_leads : {S : ℕ → Type 0} {x i j : ℕ} → Reached ws S x i j → LeadsOver ws S x (child_at ws x i) (child_at ws x j)
  chain_leads {x = x} {i} {j} (last s) t u c d = go (replace x i j) s.allowed (choice_replace s.can c d) stay
  chain_leads {x = x} {i} {j} (next k s r) t u c d =
      let p = plant_child ok s.can.choice.type s.can.to in
      go (replace x i k) s.allowed (choice_replace s.can c p.conforms) (chain_leads r p.forest u p.conforms d)

  forced_shown : {S : ℕ → Type 0} (e : Edit) → Offers ws e → Forces ws S (privilege_of ws e) → Shown ws S e ⊎ Idle ws e
  forced_shown e o (forces.exchange x c b q) =
      let is : e ≡ exchange x = edit_one ws e (exchange x) o c q in
      let f = one_fits c.star in
      rw is (⊎_map (λ d. at_shown c.star.type f f (renewal_leads c.star (by_both b)) d (star_exchange c d.one_conforms d.other_conforms)) (λ h. h) (exchange_trees c))
  forced_shown e o (renewal x s r w) = ⊎_map (below_shown s.type (one_fits s) (renewal_leads s r)) (λ h. h) (below_case e o w)
  forced_shown e o (chain x i j s r c q) =
      let is : e ≡ replace x i j = edit_one ws e (replace x i j) o c q in
      rw is (⊎_map (λ d. at_shown s.type (kind_fits s c.from) (kind_fits s c.to) (chain_leads r) d (choice_replace c d.one_conforms d.other_conforms))
      (λ h. h) (replace_trees c))
  forced_shown e o (cycle x i s r w) = ⊎_map (below_shown s.type (kind_fits s (reached_from r)) (chain_leads r)) (λ h. h) (below_case e o w)

  -- each granted edit is shown, or it is idle
  pub granted_shown : {S : ℕ → Type 0} (e : Edit) → Offers ws e → Granted ws S (privilege_of ws e) → Shown ws S e ⊎ Idle ws e
  granted_shown e o (inl a) = ⊎_map (λ c. in_document (edit_belongs ws e o).type c (go e a c.made stay)) (λ h. h) (case_of e o)
  granted_shown e o (inr f) = forced_shown e o f
