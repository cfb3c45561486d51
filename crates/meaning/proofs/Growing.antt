-- Every type of a table has a tree, since none is on a cycle; and every type has a place below the root: a document with room for any tree of the
-- type. Both come from the order of the types, whatever their numbers. Assumes nothing.
use Prim.Native.Nat.{ℕ, zero, suc, ◌<◌}
use mathlib.Core.Path.{◌≡◌, refl, ap}
use mathlib.Core.List.{List, [], ◌∷◌}
use native.Mathlib.Omega.{arith}
use lib.ListN.{length, get_or}
use Rattle.table.specs.Words.{types, root}
use Rattle.table.specs.Rule.{rule_at, count_in, count_of, children_at, child_at, IsChoice, IsStar, Child}
use Rattle.table.specs.Below.{Below, here, down}
use Rattle.table.specs.Privilege.{Edit}
use Rattle.table.specs.Check.{Accepted}
use Rattle.table.specs.declared.rule.Rule.{Rule}
use Rattle.table.specs.declared.rule.Rule.TheVariants.{Empty, Text, Sequence, Choice, Star}
use Rattle.table.proofs.Climbs.{from_children}
use Rattle.table.proofs.Facts.{facts, child_at_lem}
use Rattle.meaning.specs.Trees.{Forest, bare, tree, Fits, as_empty, as_text, as_sequence, as_choice, as_star, Conforms, no_tree, conforming, ConformsAt, Same}
use Rattle.meaning.specs.Edits.{Makes, at, below, beside}
use Rattle.meaning.proofs.Orders.{same_lone, same_rest, same_first}

-- a forest of the types xs
pub record Grown (ws xs : List ℕ) : Type 0 where
  pub forest : Forest
  pub conforms : Conforms ws xs forest

-- a tree of type x
abbrev pub Plant : List ℕ → ℕ → Type 0
Plant ws x = Grown ws (x ∷ [])

in_front : {ws : List ℕ} {x : ℕ} {xs : List ℕ} {t : Forest} → ConformsAt ws x t → Grown ws xs → Grown ws (x ∷ xs)
in_front (conforming t v no_tree) g = record { forest = _; conforms = conforming t v g.conforms }

pub row : {ws : List ℕ} (xs : List ℕ) → ((i : ℕ) → i < length xs → Plant ws (get_or xs i 0)) → Grown ws xs
row [] h = record { forest = bare; conforms = no_tree }
row (x ∷ xs) h = in_front (h 0 (omega arith)).conforms (row xs (λ i l. h (suc i) (omega arith)))

planted : {ws : List ℕ} {x : ℕ} {xs : List ℕ} → Fits ws x [] xs → Grown ws xs → Plant ws x
planted {x = x} t g = record { forest = tree x [] g.forest bare; conforms = conforming t g.conforms no_tree }

module _ {ws : List ℕ} (ok : Accepted ws) where
  pub child_of : {x : ℕ} → x < types ws → (i : ℕ) → i < length (children_at ws x) → Child ws x (child_at ws x i)
  child_of {x} l i h = child_at_lem ok x i l (omega (arith, (facts ok).children_here x l))

  grow : (x : ℕ) → x < types ws → ((y : ℕ) → Child ws x y → Plant ws y) → Plant ws x
  grow x l more = by (rule_at ws x) refl
    where
      by : (rule : Rule) → rule_at ws x ≡ rule → Plant ws x
      by Empty e = planted (as_empty (record { type = l; kind_is = rw e }) refl refl) (row [] (λ i h. absurd (omega arith)))
      by Text e = planted (as_text (record { type = l; kind_is = rw e }) refl) (row [] (λ i h. absurd (omega arith)))
      by (Sequence a b) e = planted (as_sequence (record { type = l; kind_is = rw e }) refl refl) (row (children_at ws x) (λ i h. more (child_at ws x i) (child_of l i h)))
      by (Choice a b) e =
          let c : IsChoice ws x = record { type = l; kind_is = rw e } in
          planted (as_choice 0 c ((facts ok).choice_some x c) refl refl) (more (child_at ws x 0) (child_at_lem ok x 0 l ((facts ok).choice_some x c)))
      by (Star a b) e = planted (as_star 0 (record { type = l; kind_is = rw e }) refl refl) (row [] (λ i h. absurd (omega arith)))

  -- every type has a tree
  pub plant : (x : ℕ) → x < types ws → Plant ws x
  plant x l = from_children (facts ok).off_cycle grow x l

  pub plant_child : {x i : ℕ} → x < types ws → i < count_of ws x → Plant ws (child_at ws x i)
  plant_child {x} {i} l h = plant (child_at ws x i) ((facts ok).child_inside x i l h)

-- a forest of the types ys with a place for a tree of type x: what is put there conforms, what an edit makes of it the edit makes of the whole, and
-- trees that are the same there are the same
pub record Place (ws : List ℕ) (x : ℕ) (ys : List ℕ) : Type 0 where
  pub plug : Forest → Forest
  pub conforms : (t : Forest) → ConformsAt ws x t → Conforms ws ys (plug t)
  pub makes : (e : Edit) (t u : Forest) → Makes ws e t u → Makes ws e (plug t) (plug u)
  pub tells : (t u : Forest) → ConformsAt ws x t → ConformsAt ws x u → Same (plug t) (plug u) → Same t u

-- one forest and then another
abbrev join : Forest → Forest → Forest
join bare g = g
join (tree x s k f) g = tree x s k (join f g)

join_makes : {ws : List ℕ} {e : Edit} {f g : Forest} (h : Forest) → Makes ws e f g → Makes ws e (join f h) (join g h)
join_makes h (at m) = at m
join_makes h (below m) = below m
join_makes h (beside m) = beside (join_makes h m)

join_conforms : {ws : List ℕ} {x : ℕ} {xs : List ℕ} {t g : Forest} → ConformsAt ws x t → Conforms ws xs g → Conforms ws (x ∷ xs) (join t g)
join_conforms (conforming t v no_tree) w = conforming t v w

join_same : {ws : List ℕ} {x : ℕ} {t u : Forest} (g : Forest) → ConformsAt ws x t → ConformsAt ws x u → Same (join t g) (join u g) → Same t u
join_same g (conforming t v no_tree) (conforming u w no_tree) a = same_first g a

module _ {ws : List ℕ} {x : ℕ} where
  whole : Place ws x (x ∷ [])
  whole = record { plug = λ t. t; conforms = λ t c. c; makes = λ e t u m. m; tells = λ t u c d a. a }

  -- in front of a row
  pub front : {ys : List ℕ} → Grown ws ys → Place ws x (x ∷ ys)
  front g = record {
    plug = λ t. join t g.forest;
    conforms = λ t c. join_conforms c g.conforms;
    makes = λ e t u m. join_makes g.forest m;
    tells = λ t u c d a. join_same g.forest c d a;
  }

  -- behind a tree
  behind : {y : ℕ} {ys : List ℕ} {s : Forest} → ConformsAt ws y s → Place ws x ys → Place ws x (y ∷ ys)
  behind {y} (conforming {s = s} {k = k} t v no_tree) p = record {
    plug = λ u. tree y s k (p.plug u);
    conforms = λ u c. conforming t v (p.conforms u c);
    makes = λ e t u m. beside (p.makes e t u m);
    tells = λ t u c d a. p.tells t u c d (same_rest a);
  }

  -- below a root
  inside : {y : ℕ} {ys : List ℕ} → Fits ws y [] ys → Place ws x ys → Place ws x (y ∷ [])
  inside {y} f p = record {
    plug = λ t. tree y [] (p.plug t) bare;
    conforms = λ t c. conforming f (p.conforms t c) no_tree;
    makes = λ e t u m. below (p.makes e t u m);
    tells = λ t u c d a. p.tells t u c d (same_lone a).2;
  }

  -- a place in a tree that has a place
  within : {z : ℕ} {ys : List ℕ} → Place ws x (z ∷ []) → Place ws z ys → Place ws x ys
  within p q = record {
    plug = λ t. q.plug (p.plug t);
    conforms = λ t c. q.conforms (p.plug t) (p.conforms t c);
    makes = λ e t u m. q.makes e (p.plug t) (p.plug u) (p.makes e t u m);
    tells = λ t u c d a. p.tells t u c d (q.tells (p.plug t) (p.plug u) (p.conforms t c) (p.conforms u d) a);
  }

-- at position i of a row
slot : {ws : List ℕ} (xs : List ℕ) (i : ℕ) → i < length xs → ((j : ℕ) → j < length xs → Plant ws (get_or xs j 0)) → Place ws (get_or xs i 0) xs
slot [] i l h = absurd (omega arith)
slot (x ∷ xs) zero l h = front (row xs (λ j m. h (suc j) (omega arith)))
slot (x ∷ xs) (suc i) l h = behind (h 0 (omega arith)).conforms (slot xs i (omega arith) (λ j m. h (suc j) (omega arith)))

count_by : (ws : List ℕ) (y : ℕ) {rule : Rule} → rule_at ws y ≡ rule → count_of ws y ≡ count_in rule
unfolding count_of
count_by ws y e = ap count_in e

module _ {ws : List ℕ} (ok : Accepted ws) where
  -- a child below its parent
  child_place : {x y : ℕ} → Child ws y x → Place ws x (y ∷ [])
  child_place {x} {y} c = by (rule_at ws y) refl
    where
      small : c.at < count_of ws y
      small = omega (arith, (facts ok).children_here y c.parent, c.within)

      by : (rule : Rule) → rule_at ws y ≡ rule → Place ws x (y ∷ [])
      by Empty e = absurd (omega (arith, small, count_by ws y e))
      by Text e = absurd (omega (arith, small, count_by ws y e))
      by (Sequence a b) e =
          let p = slot (children_at ws y) c.at c.within (λ j m. plant ok (child_at ws y j) (child_of ok c.parent j m).inside) in
          inside (as_sequence (record { type = c.parent; kind_is = rw e }) refl refl) (rw c.is at p)
      by (Choice a b) e = inside (as_choice c.at (record { type = c.parent; kind_is = rw e }) small refl (rw c.is)) whole
      by (Star a b) e =
          let s : IsStar ws y = record { type = c.parent; kind_is = rw e } in
          let z : c.at ≡ 0 = omega (arith, (facts ok).star_one y s, small) in
          let is : child_at ws y 0 ≡ x = rw z at c.is in
          let p : Place ws (child_at ws y 0) (y ∷ []) = inside (as_star 1 s refl refl) whole in
          rw is at p

  pub place : {x y : ℕ} → Below ws x y → Place ws x (y ∷ [])
  place here = whole
  place (down z c b) = within (place b) (child_place c)

  -- every type has a place in a document
  pub document_place : (x : ℕ) → x < types ws → Place ws x (root ws ∷ [])
  document_place x l = place ((facts ok).reached x l)
