-- Renumbering carries all along that a table says: children, what is below, cycles, what is reached, kinds, privileges and edits; and its way
-- back is a renumbering too. Assumes nothing.
use Prim.Native.Nat.{ℕ, zero, suc, ◌<◌}
use mathlib.Core.Path.{◌≡◌, refl, sym, ap, ◌∙◌}
use mathlib.Core.List.{List, map}
use lib.ListN.{length, get_or, length-map}
use Rattle.table.specs.Words.{types, root, kind_at, count_at, first_at}
use Rattle.table.specs.Rule.{rule_of, rule_at, kind_in, count_of, children_at, child_at, OfKind, Child}
use Rattle.table.specs.Below.{Below, here, down, OnCycle, FromRoot}
use Rattle.table.specs.Privilege.{gap_of, privileges_of, privileges_at, first_privilege, privileges, Edit, text, insert, delete, exchange, replace, type_of, Offers}
use Rattle.table.specs.Steps.Childed.{Childed}
use Rattle.table.specs.Renumbered.{Renumbered, moved}
use Rattle.table.specs.declared.rule.Rule.{Rule}
use Rattle.table.proofs.Sums.{sum_same}
use Rattle.table.proofs.Children.{count_read, children_all}
use Rattle.table.proofs.Privileges.{edit_belongs}
use Rattle.table.proofs.Permuted.{permutes_back, map_at, map_back, sum_permuted}

-- an edit moves with its type
pub moved_type : (f : ℕ → ℕ) (e : Edit) → type_of (moved f e) ≡ f (type_of e)
moved_type f (text x) = refl
moved_type f (insert x) = refl
moved_type f (delete x) = refl
moved_type f (exchange x) = refl
moved_type f (replace x i j) = refl

moved_twice : (f g : ℕ → ℕ) (e : Edit) → g (f (type_of e)) ≡ type_of e → moved g (moved f e) ≡ e
moved_twice f g (text x) q = ap text q
moved_twice f g (insert x) q = ap insert q
moved_twice f g (delete x) q = ap delete q
moved_twice f g (exchange x) q = ap exchange q
moved_twice f g (replace x i j) q = ap (λ (y : ℕ). replace y i j) q

module _ {f g : ℕ → ℕ} {ws vs : List ℕ} (r : Renumbered f g ws vs) where
  type_there : {t : ℕ} → t < types ws → f t < types vs
  type_there {t} l = rw r.as_many (r.permutes.there t l)

  child_there : {y x : ℕ} → Child ws y x → Child vs (f y) (f x)
  child_there {y} {x} c =
      let kids = r.children y c.parent in
      record {
        parent = type_there c.parent;
        inside = type_there c.inside;
        at = c.at;
        within = rw (kids, length-map (children_at ws y) f) c.within;
        is = ap (λ (l : List ℕ). get_or l c.at 0) kids ∙ map_at f (children_at ws y) c.at c.within ∙ ap f c.is;
      }

  pub below_there : {x y : ℕ} → Below ws x y → Below vs (f x) (f y)
  below_there here = here
  below_there (down z c b) = down (f z) (child_there c) (below_there b)

  pub cycle_there : {t : ℕ} → OnCycle ws t → OnCycle vs (f t)
  cycle_there o = record { child = f o.child; is_child = child_there o.is_child; below = below_there o.below }

  pub reached_there : {x : ℕ} → FromRoot ws x → FromRoot vs (f x)
  reached_there b = rw r.root_is (below_there b)

  pub renumbered_back : Childed ws → Renumbered g f vs ws
  renumbered_back c = record {
    permutes = rw r.as_many (permutes_back r.permutes);
    format = sym r.format;
    as_many = sym r.as_many;
    root_is = sym (ap g r.root_is ∙ r.permutes.there_back (root ws) c.tiled.laid.root_inside);
    kind = λ t l. kind t (rw r.as_many at l);
    children = λ t l. children t (rw r.as_many at l);
  }
    where
      kind : (t : ℕ) → t < types ws → kind_at ws (g t) ≡ kind_at vs t
      kind t l = sym (r.kind (g t) (r.permutes.back t l)) ∙ ap (λ (x : ℕ). kind_at vs x) (r.permutes.back_there t l)

      children : (t : ℕ) → t < types ws → children_at ws (g t) ≡ map g (children_at vs t)
      children t l =
          let low = r.permutes.back t l in
          sym (map_back r.permutes (children_at ws (g t)) (c.inside (g t) low)) ∙ ap (λ (k : List ℕ). map g k) (sym (r.children (g t) low))
          ∙ ap (λ (x : ℕ). map g (children_at vs x)) (r.permutes.back_there t l)

  pub moved_back : (e : Edit) → Offers ws e → moved g (moved f e) ≡ e
  moved_back e o = moved_twice f g e (r.permutes.there_back (type_of e) (edit_belongs ws e o).type)

-- what two rules have alike that differ in the place of their children only
record Alike (r s : Rule) : Type 0 where
  kind : kind_in r ≡ kind_in s
  privileges : (gap : ℕ) → privileges_of gap r ≡ privileges_of gap s

alike : (kind a b n : ℕ) → Alike (rule_of kind a n) (rule_of kind b n)
unfolding rule_of
alike zero a b n = record { kind = refl; privileges = λ gap. refl }
alike (suc zero) a b n = record { kind = refl; privileges = λ gap. refl }
alike (suc (suc zero)) a b n = record { kind = refl; privileges = λ gap. refl }
alike (suc (suc (suc zero))) a b n = record { kind = refl; privileges = λ gap. refl }
alike (suc (suc (suc (suc zero)))) a b n = record { kind = refl; privileges = λ gap. refl }
alike (suc (suc (suc (suc (suc k))))) a b n = record { kind = refl; privileges = λ gap. refl }

-- where both have the children that their records say
module _ {f g : ℕ → ℕ} {ws vs : List ℕ} (r : Renumbered f g ws vs) (c : Childed ws) (d : Childed vs) where
  count_there : {t : ℕ} → t < types ws → count_of vs (f t) ≡ count_of ws t
  count_there {t} l =
      sym (children_all d.tiled (f t) (type_there r l)) ∙ ap (λ (k : List ℕ). length k) (r.children t l) ∙ length-map (children_at ws t) f
      ∙ children_all c.tiled t l

  pub position_there : {x : ℕ} (i : ℕ) → x < types ws → i < count_of ws x → child_at vs (f x) i ≡ f (child_at ws x i)
  position_there {x} i l h =
      ap (λ (k : List ℕ). get_or k i 0) (r.children x l) ∙ map_at f (children_at ws x) i (rw (children_all c.tiled x l) h)

  rule_there : {t : ℕ} → t < types ws → Alike (rule_at vs (f t)) (rule_at ws t)
  unfolding rule_at
  rule_there {t} l =
      let count : count_at vs (f t) ≡ count_at ws t = sym (count_read d.tiled (f t) (type_there r l)) ∙ count_there l ∙ count_read c.tiled t l in
      rw (r.kind t l, count) (alike (kind_at ws t) (first_at vs (f t)) (first_at ws t) (count_at ws t))

  pub kind_there : {t kind : ℕ} → OfKind ws t kind → OfKind vs (f t) kind
  kind_there h = record { type = type_there r h.type; kind_is = (rule_there h.type).kind ∙ h.kind_is }

  pub offers_there : (e : Edit) → Offers ws e → Offers vs (moved f e)
  offers_there (text x) h = kind_there h
  offers_there (insert x) h = kind_there h
  offers_there (delete x) h = kind_there h
  offers_there (exchange x) h = record { star = kind_there h.star; same_kind = r.format ∙ h.same_kind }
  offers_there (replace x i j) h =
      let count = count_there h.choice.type in
      record { choice = kind_there h.choice; from = rw count h.from; to = rw count h.to; same_kind = λ e. r.format ∙ h.same_kind e }

  same_gap : gap_of vs ≡ gap_of ws
  unfolding gap_of
  same_gap = rw r.format

  own_there : (t : ℕ) → t < types ws → privileges_at vs (f t) ≡ privileges_at ws t
  unfolding privileges_at
  own_there t l = ap (λ (gap : ℕ). privileges_of gap (rule_at vs (f t))) same_gap ∙ (rule_there l).privileges (gap_of ws)

  -- so there are as many privileges
  pub same_privileges : privileges vs ≡ privileges ws
  unfolding privileges first_privilege
  same_privileges = rw r.as_many (sym (sum_permuted (privileges_at vs) (permutes_back r.permutes)) ∙ sum_same (types ws) own_there)
