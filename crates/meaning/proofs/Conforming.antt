-- What an edit makes of a forest that conforms to the table conforms to it again, at the same types; and the edit's privilege is below what the
-- forest's types are below. Assumes nothing.
use Prim.Native.Nat.{ℕ, zero, suc, ◌<◌}
use mathlib.Core.Path.{◌≡◌, refl}
use mathlib.Core.List.{List, [], ◌∷◌}
use native.Mathlib.Omega.{arith}
use lib.ListN.{length, get_or, replicate, length-replicate, get_or-replicate}
use Rattle.table.specs.Rule.{children_at, child_at, count_of, OfKind, Child}
use Rattle.table.specs.Below.{Below, here, down}
use Rattle.table.specs.Privilege.{Edit, type_of, Offers, privilege_of}
use Rattle.table.specs.Check.{Accepted}
use Rattle.table.proofs.Belows.{below_trans}
use Rattle.table.proofs.Facts.{facts, child_at_lem}
use Rattle.table.proofs.Privileges.{edit_belongs}
use Rattle.verdict.specs.Below.{PrivilegeBelow}
use Rattle.meaning.specs.Trees.{Forest, bare, tree, Fits, as_empty, as_text, as_sequence, as_choice, as_star, Conforms, no_tree, conforming, ConformsAt, Put, put_first, put_later, Anew, anew_first, anew_later}
use Rattle.meaning.specs.Edits.{AtNode, set_text, put_in, put_out, put_anew, put_for, Makes, at, below, beside, Leads, stay, go}
use Rattle.meaning.proofs.Putting.{Some, put_some}

pub none_conforms : {ws : List ℕ} {f : Forest} → Conforms ws [] f → ¬ Some f
none_conforms no_tree s = s

-- one tree before others
before : {ws : List ℕ} {c d : ℕ} {r xs : List ℕ} {m f : Forest} → ConformsAt ws d (tree c r m bare) → Conforms ws xs f → Conforms ws (d ∷ xs) (tree c r m f)
before (conforming t v no_tree) f = conforming t v f

-- one more and one less of the star's kind
put_conforms : {ws : List ℕ} {c : ℕ} {r : List ℕ} {m k l : Forest} (n : ℕ) → Put c r m k l → ConformsAt ws c (tree c r m bare) → Conforms ws (replicate n c) k
    → Conforms ws (replicate (suc n) c) l
put_conforms n put_first v k = before v k
put_conforms zero (put_later q) v k = elim k [ ]
put_conforms (suc n) (put_later q) v (conforming t k f) = conforming t k (put_conforms n q v f)

rest_conforms : {ws : List ℕ} {c y : ℕ} {r : List ℕ} {m k l : Forest} (n : ℕ) → Put y r m k l → Conforms ws (replicate n c) l
    → (p : ℕ) × Conforms ws (replicate p c) k
rest_conforms zero q v = absurd (none_conforms v (put_some q))
rest_conforms (suc n) put_first (conforming t v f) = (n, f)
rest_conforms (suc n) (put_later q) (conforming t v f) = let h = rest_conforms n q f in (suc h.0, conforming t v h.1)

-- one in another's place
anew_conforms : {ws : List ℕ} {c : ℕ} {r : List ℕ} {m : Forest} {xs : List ℕ} {k l : Forest} → Anew c r m k l → ConformsAt ws c (tree c r m bare) → Conforms ws xs k → Conforms ws xs l
anew_conforms anew_first v (conforming u w f) = before v f
anew_conforms (anew_later q) v (conforming t k f) = conforming t k (anew_conforms q v f)

-- what fits a type of a known kind
abbrev pub FitsAs : List ℕ → ℕ → List ℕ → List ℕ → ℕ → Type 0
FitsAs ws x s xs zero = (s ≡ []) × (xs ≡ [])
FitsAs ws x s xs (suc zero) = xs ≡ []
FitsAs ws x s xs (suc (suc zero)) = (s ≡ []) × (xs ≡ children_at ws x)
FitsAs ws x s xs (suc (suc (suc zero))) = (s ≡ []) × (i : ℕ) × (i < count_of ws x) × (xs ≡ child_at ws x i ∷ [])
FitsAs ws x s xs (suc (suc (suc (suc zero)))) = (s ≡ []) × (n : ℕ) × (xs ≡ replicate n (child_at ws x 0))
FitsAs ws x s xs (suc (suc (suc (suc (suc kind))))) = ⊥

pub fits_as : {ws : List ℕ} {x kind : ℕ} {s xs : List ℕ} → Fits ws x s xs → OfKind ws x kind → FitsAs ws x s xs kind
fits_as {kind = kind} (as_empty o e z) i = let is : kind ≡ 0 = omega (arith, o.kind_is, i.kind_is) in rw is (e, z)
fits_as {kind = kind} (as_text o z) i = let is : kind ≡ 1 = omega (arith, o.kind_is, i.kind_is) in rw is z
fits_as {kind = kind} (as_sequence o e z) i = let is : kind ≡ 2 = omega (arith, o.kind_is, i.kind_is) in rw is (e, z)
fits_as {kind = kind} (as_choice j o l e z) i = let is : kind ≡ 3 = omega (arith, o.kind_is, i.kind_is) in rw is (e, j, l, z)
fits_as {kind = kind} (as_star n o e z) i = let is : kind ≡ 4 = omega (arith, o.kind_is, i.kind_is) in rw is (e, n, z)

-- an edit at a node
record Fitting (ws : List ℕ) (x : ℕ) (r : List ℕ) (l : Forest) : Type 0 where
  types : List ℕ
  fits : Fits ws x r types
  kids : Conforms ws types l

at_conforms : {ws : List ℕ} {x : ℕ} {e : Edit} {s r xs : List ℕ} {k l : Forest} → AtNode ws x e s k r l → Fits ws x s xs → Conforms ws xs k → Fitting ws x r l
at_conforms {xs = xs} (set_text i) t v = record { types = xs; fits = as_text i (fits_as t i); kids = v }
at_conforms {ws} {x} (put_in i y w q) t v =
    let h = fits_as t i in
    let n = h.1 in
    record { types = replicate (suc n) (child_at ws x 0); fits = as_star (suc n) i h.0 refl; kids = put_conforms n (rw y at q) (rw y at w) (rw h.2 at v) }
at_conforms {ws} {x} (put_out i q) t v =
    let h = fits_as t i in
    let k = rest_conforms h.1 q (rw h.2 at v) in
    record { types = replicate k.0 (child_at ws x 0); fits = as_star k.0 i h.0 refl; kids = k.1 }
at_conforms {xs = xs} (put_anew c y w q) t v = record { types = xs; fits = t; kids = anew_conforms q w v }
at_conforms (put_for {j = j} {z = z} o y g w) t v =
    record { types = z ∷ []; fits = as_choice j o.choice o.to (fits_as t o.choice).0 (rw g); kids = w }

-- "we assume that the evaluation of an update operation on a tree that conforms to a DTD D results in a tree that conforms to D" (document 000,
-- section 3.2): nothing is to be assumed
pub makes_conforms : {ws : List ℕ} {e : Edit} {xs : List ℕ} {f g : Forest} → Makes ws e f g → Conforms ws xs f → Conforms ws xs g
makes_conforms (at m) (conforming t v w) = let h = at_conforms m t v in conforming h.fits h.kids w
makes_conforms (below m) (conforming t v w) = conforming t (makes_conforms m v) w
makes_conforms (beside m) (conforming t v w) = conforming t v (makes_conforms m w)

pub leads_conforms : {ws : List ℕ} {S : ℕ → Type 0} {xs : List ℕ} {f g : Forest} → Leads ws S f g → Conforms ws xs f → Conforms ws xs g
leads_conforms stay c = c
leads_conforms (go e a m l) c = leads_conforms l (makes_conforms m c)

-- the table has the edit
pub makes_offers : {ws : List ℕ} {e : Edit} {f g : Forest} → Makes ws e f g → Offers ws e
makes_offers (at (set_text i)) = i
makes_offers (at (put_in i y v q)) = i
makes_offers (at (put_out i q)) = i
makes_offers (at (put_anew c y v q)) = c
makes_offers (at (put_for o y z v)) = o
makes_offers (below m) = makes_offers m
makes_offers (beside m) = makes_offers m

-- an edit at a node is one of its type's
at_type : {ws : List ℕ} {x : ℕ} {e : Edit} {s r : List ℕ} {k l : Forest} → AtNode ws x e s k r l → type_of e ≡ x
at_type (set_text i) = refl
at_type (put_in i y v q) = refl
at_type (put_out i q) = refl
at_type (put_anew c y v q) = refl
at_type (put_for o y z v) = refl

-- the types are all below z
abbrev pub AllBelow : List ℕ → List ℕ → ℕ → Type 0
AllBelow ws xs z = (i : ℕ) → i < length xs → Below ws (get_or xs i 0) z

module _ {ws : List ℕ} (a : Accepted ws) where
  fits_children : {x : ℕ} {s xs : List ℕ} → Fits ws x s xs → (i : ℕ) → i < length xs → Child ws x (get_or xs i 0)
  fits_children (as_empty o e z) i l = absurd (omega (arith, rw z at l))
  fits_children (as_text o z) i l = absurd (omega (arith, rw z at l))
  fits_children {x} (as_sequence o e z) i l = rw z (child_at_lem a x i o.type (omega (arith, (facts a).children_here x o.type, rw z at l)))
  fits_children {x} (as_choice j o h e z) zero l = rw z (child_at_lem a x j o.type h)
  fits_children {x} (as_choice j o h e z) (suc i) l = absurd (omega (arith, rw z at l))
  fits_children {x} (as_star n o e z) i l =
      let within : i < n = omega (arith, rw z at l, length-replicate {A = ℕ} n (child_at ws x 0)) in
      rw (z, get_or-replicate {A = ℕ} n i (child_at ws x 0) 0 within) (child_at_lem a x 0 o.type (omega (arith, (facts a).star_one x o)))

  makes_below : {e : Edit} {xs : List ℕ} {f g : Forest} → Makes ws e f g → Conforms ws xs f → (z : ℕ) → AllBelow ws xs z → Below ws (type_of e) z
  makes_below (at m) (conforming t v w) z b = rw (at_type m) (b 0 (omega arith))
  makes_below (below m) (conforming t v w) z b = makes_below m v z (λ i l. below_trans (down _ (fits_children t i l) here) (b 0 (omega arith)))
  makes_below (beside m) (conforming t v w) z b = makes_below m w z (λ i l. b (suc i) (omega arith))

  pub makes_privilege : {e : Edit} {xs : List ℕ} {f g : Forest} → Makes ws e f g → Conforms ws xs f → (z : ℕ) → AllBelow ws xs z → PrivilegeBelow ws (privilege_of ws e) z
  makes_privilege {e} m v z b = record { type = type_of e; belongs = edit_belongs ws e (makes_offers m); below = makes_below m v z b }
