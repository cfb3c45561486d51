-- What the layers above rely on of an accepted table, one that `check_table` answers with number 0. Assumes nothing.
use Prim.Native.Nat.{ℕ, zero, suc, ◌≤◌, ◌<◌}
use mathlib.Core.Path.{◌≡◌, refl, sym, ◌∙◌}
use mathlib.Core.Logic.{◌⊎◌, inl, inr}
use mathlib.Core.List.{List}
use native.Mathlib.Omega.{arith}
use lib.ListN.{length}
use Rattle.table.specs.Words.{types, kind_at, count_at, first_at}
use Rattle.table.specs.Steps.Reading.{HasRecord, HasChildren}
use Rattle.table.specs.Rule.{rule_of, rule_at, kind_in, count_of, children_at, child_at, IsChoice, IsStar, Child}
use Rattle.table.specs.Privilege.{privileges}
use Rattle.table.specs.Check.{RightCount, Accepted}
use Rattle.table.specs.declared.check.Check.TheVariants.{Format, Kind, Count, Bounds, Twice, Cycle, Unreached, Total}
use Rattle.table.proofs.Lists.{le_or_lt}
use Rattle.table.specs.Below.{OffCycle, FromRoot}
use Rattle.table.specs.Steps.Childed.{Tiled, Childed}
use Rattle.table.specs.Steps.Accepting.{Ordered}
use Rattle.table.proofs.Children.{childed, laid_record, tiled_children, count_read, children_all}

pub record Facts (ws : List ℕ) : Type 0 where
  pub some : 1 ≤ types ws
  pub few : types ws ≤ 256
  -- a type has at most 16 children, all there, all different and all types; a choice has one at least, a star exactly one
  pub children_few : (x : ℕ) → x < types ws → count_of ws x ≤ 16
  pub children_here : (x : ℕ) → x < types ws → length (children_at ws x) ≡ count_of ws x
  pub child_inside : (x i : ℕ) → x < types ws → i < count_of ws x → child_at ws x i < types ws
  pub child_once : (x i j : ℕ) → x < types ws → i < count_of ws x → j < count_of ws x → child_at ws x i ≡ child_at ws x j → i ≡ j
  pub choice_some : (x : ℕ) → IsChoice ws x → 1 ≤ count_of ws x
  pub star_one : (x : ℕ) → IsStar ws x → count_of ws x ≡ 1
  -- no type is on a cycle, and each is reached from the root
  pub off_cycle : (x : ℕ) → x < types ws → OffCycle ws x
  pub reached : (x : ℕ) → x < types ws → FromRoot ws x
  pub privileges_few : privileges ws ≤ 4096

count_few : (kind count : ℕ) → kind ≤ 4 → RightCount kind count → count ≤ 16
count_few zero n h r = omega (arith, r.empty refl)
count_few (suc zero) n h r = omega (arith, r.text refl)
count_few (suc (suc zero)) n h r = (r.sequence refl).1
count_few (suc (suc (suc zero))) n h r = (r.choice refl).1
count_few (suc (suc (suc (suc zero)))) n h r = omega (arith, r.star refl)
count_few (suc (suc (suc (suc (suc k))))) n h r = absurd (omega arith)

-- the kind of a rule is that of its record
kind_right : (kind first count : ℕ) → kind ≤ 4 → kind_in (rule_of kind first count) ≡ kind
unfolding rule_of
kind_right zero a n h = refl
kind_right (suc zero) a n h = refl
kind_right (suc (suc zero)) a n h = refl
kind_right (suc (suc (suc zero))) a n h = refl
kind_right (suc (suc (suc (suc zero)))) a n h = refl
kind_right (suc (suc (suc (suc (suc k))))) a n h = absurd (omega arith)

module _ {ws : List ℕ} (a : Accepted ws) where
  pub accepted_childed : Childed ws
  accepted_childed = childed Total (omega arith) (λ c l. a.passes c)

  pub accepted_ordered : Ordered ws
  accepted_ordered = record { off_cycle = a.passes Cycle; reached = a.passes Unreached }

  tiled_all : Tiled ws
  tiled_all = accepted_childed.tiled

  -- the word with the format, a type's record and its children stand in the run
  pub has_format : 0 < length ws
  has_format = omega (arith, (a.passes Format 0 (omega arith)).long)

  pub has_record : {x : ℕ} → x < types ws → HasRecord ws x
  has_record l = laid_record tiled_all.laid l

  pub has_children : {x : ℕ} → x < types ws → HasChildren ws x
  has_children {x} l = tiled_children tiled_all x l

  -- and it has as many children as its record says
  pub count_recorded : {x : ℕ} → x < types ws → count_of ws x ≡ count_at ws x
  count_recorded {x} l = count_read tiled_all x l

  kind_read : (x : ℕ) → x < types ws → kind_in (rule_at ws x) ≡ kind_at ws x
  unfolding rule_at
  kind_read x l = kind_right (kind_at ws x) (first_at ws x) (count_at ws x) (a.passes Kind x l)

  once : (x i j : ℕ) → x < types ws → i < count_of ws x → j < count_of ws x → child_at ws x i ≡ child_at ws x j → i ≡ j
  once x i j l hi hj e = go (le_or_lt i j) (le_or_lt j i)
    where
      all : length (children_at ws x) ≡ count_of ws x
      all = children_all tiled_all x l

      go : (i ≤ j) ⊎ (j < i) → (j ≤ i) ⊎ (i < j) → i ≡ j
      go (inl g) (inl h) = omega arith
      go (inl g) (inr h) = absurd (a.passes Twice x l i j h (rw all hj) e)
      go (inr g) h = absurd (a.passes Twice x l j i g (rw all hi) (sym e))

  pub facts : Facts ws
  facts = record {
    some = tiled_all.laid.some;
    few = tiled_all.laid.few;
    children_few = λ x l. rw (count_read tiled_all x l) (count_few (kind_at ws x) (count_at ws x) (a.passes Kind x l) (a.passes Count x l));
    children_here = λ x l. children_all tiled_all x l;
    child_inside = λ x i l h. a.passes Bounds x l i (rw (children_all tiled_all x l) h);
    child_once = once;
    choice_some = λ x s. rw (count_read tiled_all x s.type) ((a.passes Count x s.type).choice (sym (kind_read x s.type) ∙ s.kind_is)).0;
    star_one = λ x s. count_read tiled_all x s.type ∙ (a.passes Count x s.type).star (sym (kind_read x s.type) ∙ s.kind_is);
    off_cycle = a.passes Cycle;
    reached = a.passes Unreached;
    privileges_few = (a.passes Total 0 (omega arith)).few;
  }

  -- the kind at position i of a type is its child
  pub child_at_lem : (x i : ℕ) → x < types ws → i < count_of ws x → Child ws x (child_at ws x i)
  child_at_lem x i l h = record {
    parent = l;
    inside = facts.child_inside x i l h;
    at = i;
    within = rw (children_all tiled_all x l) h;
    is = refl;
  }
