-- The replacements at a type by their positions: one pair of positions, and one set of them after another. Assumes nothing.
use Prim.Native.Nat.{ℕ, zero, suc, ◌+◌, ◌-◌, ◌≤◌, ◌<◌}
use mathlib.Core.Path.{◌≡◌, refl, sym, ap, ◌∙◌}
use mathlib.Core.Logic.{◌≢◌, ◌⊎◌, inl, inr}
use mathlib.Core.Bool.{cond}
use mathlib.Core.List.{List}
use native.Mathlib.Omega.{arith}
use borrow.Author.Tests.{lt-ltb, le-ltb}
use lib.Dec.{ltb}
use lib.ListN.{length, get_or}
use Rattle.table.specs.Privilege.{slot_of}
use Rattle.table.specs.Steps.Numbering.{Small, replace_in, row_in, missing_in, ReplaceableIn}
use Rattle.table.specs.declared.privilege.Numbering.{Numbering}
use Rattle.table.proofs.Lists.{le_or_lt}
use Rattle.table.proofs.Privileges.{slot_below, slot_some, row_before, row_behind, replaceable_missing, missing_replaceable}
use Rattle.policy.specs.Steps.Squares.{Room}
use Rattle.carry.specs.Steps.Scattering.{Scattered, Pair, Pairs}
use Rattle.carry.specs.Steps.Placing.{Alike, replacements_in, RowAs, StandsAt, RowRoom, BothStand, InRow, RowsTo, Replaces}
use Rattle.carry.specs.declared.replaced.Row.{Row}
use Rattle.carry.proofs.Scattering.{Either, scattered_none, scattered_as, scattered_then, below_next}

-- there is as much room in results of the same length
pub room_after : {n : Numbering} {l m : List ℕ} → Room n l → length m ≡ length l → Room n m
room_after r e = record { small = r.small; room = λ i j h. omega (arith, e, r.room i j h) }

-- where the replacement by the kind at j stands in its row
row_place : (n : Numbering) (i j : ℕ) → Small n → j < n.count → j ≢ missing_in n i → replace_in n i j ≡ row_in n i + cond (ltb j (missing_in n i)) j (j - 1)
row_place n i j small h d = go j h d (le_or_lt (missing_in n i) j)
  where
    go : (j : ℕ) → j < n.count → j ≢ missing_in n i → (missing_in n i ≤ j) ⊎ (j < missing_in n i) → replace_in n i j ≡ row_in n i + cond (ltb j (missing_in n i)) j (j - 1)
    go zero h d (inl l) = absurd (d (omega arith))
    go (suc k) h d (inl l) = rw (le-ltb (suc k) (missing_in n i) l) (row_behind n i k small (omega arith) h ∙ omega arith)
    go j h d (inr l) = rw (lt-ltb j (missing_in n i) l) (row_before n i j small.narrow l)

-- the replacements of a row are those of its child
module _ {n : Numbering} {i : ℕ} {row : Row} (small : Small n) (r : RowAs n i row) (hi : i < n.count) where
  placed : {j : ℕ} → j < row.count → j ≢ row.gap → row.first + cond (ltb j row.gap) j (j - 1) ≡ replace_in n i j
  placed {j} h d = rw (r.first, r.gap) (sym (row_place n i j small (omega (arith, r.count)) (λ e. d (e ∙ sym r.gap))))

  pub stands_replaced : {j p : ℕ} → StandsAt row j p → ReplaceableIn n i j × (p ≡ replace_in n i j)
  stands_replaced s = (
    missing_replaceable small hi (omega (arith, s.inside, r.count)) (λ e. s.other (e ∙ sym r.gap)),
    s.is ∙ placed s.inside s.other,
  )

  pub replaced_stands : {j p : ℕ} → ReplaceableIn n i j → p ≡ replace_in n i j → StandsAt row j p
  replaced_stands {j} can e =
      let inside : j < row.count = omega (arith, can.to, r.count) in
      let other : j ≢ row.gap = λ z. replaceable_missing small can (z ∙ r.gap) in
      record { inside = inside; other = other; is = e ∙ sym (placed inside other) }

  pub row_room : {l : List ℕ} → Room n l → RowRoom row l
  row_room room = record { small = r.small; room = λ j p s. let o = stands_replaced s in omega (arith, o.1, room.room i j o.0) }

-- where both rows have one, one pair is moved
module _ {from to : Row} {marks out lost : List ℕ} where
  pub both_there : {m l : List ℕ} {j k p q : ℕ} → StandsAt from j p → StandsAt to k q → Scattered (Pair p q) marks out lost m l
      → Scattered (BothStand from to j k) marks out lost m l
  both_there {j = j} {k} {p} {q} old new = scattered_as (Pair p q) (BothStand from to j k)
      (λ a b h. record { old = rw h.0 old; new = rw h.1 new })
      (λ a b h. (h.old.is ∙ sym old.is, h.new.is ∙ sym new.is))

-- the replacements by the kinds before j of one row are moved to another, by the places of these kinds
pub record MovedTo (from to : Row) (at : List ℕ) (j p q : ℕ) : Type 0 where
  pub k : ℕ
  pub below : k < j
  pub both : BothStand from to k (get_or at k 0) p q

module _ (from to : Row) (at : List ℕ) where
  pub moved_more : {marks out lost m l n k : List ℕ} (j : ℕ) → Scattered (MovedTo from to at j) marks out lost m l
      → Scattered (BothStand from to j (get_or at j 0)) marks m l n k → Scattered (MovedTo from to at (j + 1)) marks out lost n k
  moved_more j = scattered_then (MovedTo from to at j) (BothStand from to j (get_or at j 0)) (MovedTo from to at (j + 1)) (record {
    first = λ p q b. record { k = b.k; below = omega (arith, b.below); both = b.both };
    second = λ p q b. record { k = j; below = omega arith; both = b };
    split = λ p q b. elim (below_next b.k j b.below) [
      | inl l ↦ inl (record { k = b.k; below = l; both = b.both })
      | inr e ↦ inr (rw e at b.both)
    ];
  })

module _ (from to : Numbering) (at : List ℕ) where
  -- the same replacements, asked for by other positions
  as_asked : (X Y : ℕ → ℕ → Type 0) {p q : ℕ} (r : Replaces from to at X p q) → Y r.i r.j → Replaces from to at Y p q
  as_asked X Y r y = record { i = r.i; j = r.j; within = y; old = r.old; old_is = r.old_is; new = r.new; new_is = r.new_is }

  -- Z are the positions of X and those of Y
  more : (X Y Z : ℕ → ℕ → Type 0) → ((a b : ℕ) → X a b → Z a b) → ((a b : ℕ) → Y a b → Z a b) → ((a b : ℕ) → Z a b → X a b ⊎ Y a b)
      → Either (Replaces from to at X) (Replaces from to at Y) (Replaces from to at Z)
  more X Y Z f g h = record {
    first = λ p q r. as_asked X Z r (f r.i r.j r.within);
    second = λ p q r. as_asked Y Z r (g r.i r.j r.within);
    split = λ p q r. elim (h r.i r.j r.within) [ inl x ↦ inl (as_asked Z X r x) | inr y ↦ inr (as_asked Z Y r y) ];
  }

  -- a row is moved by the rows of the child at i and of its place
  pub row_all : {old new : Row} {marks out lost m l : List ℕ} (i j : ℕ) → RowAs from i old → RowAs to (get_or at i 0) new → Small from → Small to → i < from.count
      → get_or at i 0 < to.count → from.count ≤ j → Scattered (MovedTo old new at j) marks out lost m l → Scattered (Replaces from to at (InRow i)) marks out lost m l
  row_all {old} {new} i j f g sf st hi ha all = scattered_as (MovedTo old new at j) (Replaces from to at (InRow i)) there back
    where
      there : (p q : ℕ) → MovedTo old new at j p q → Replaces from to at (InRow i) p q
      there p q b =
          let o = stands_replaced sf f hi b.both.old in
          let n = stands_replaced st g ha b.both.new in
          record { i = i; j = b.k; within = refl; old = o.0; old_is = o.1; new = n.0; new_is = n.1 }

      back : (p q : ℕ) → Replaces from to at (InRow i) p q → MovedTo old new at j p q
      back p q r = record {
        k = r.j;
        below = omega (arith, r.old.to);
        both = record {
          old = replaced_stands sf f hi (rw r.within at r.old) (rw r.within at r.old_is);
          new = replaced_stands st g ha (rw r.within at r.new) (rw r.within at r.new_is);
        };
      }

  pub rows_start : (marks out lost : List ℕ) → Scattered (Replaces from to at (RowsTo 0)) marks out lost out lost
  rows_start marks out lost = scattered_none (Replaces from to at (RowsTo 0)) marks out lost (λ p q r. omega (arith, r.within))

  pub rows_more : {marks out lost m l n k : List ℕ} (i : ℕ) → Scattered (Replaces from to at (RowsTo i)) marks out lost m l
      → Scattered (Replaces from to at (InRow i)) marks m l n k → Scattered (Replaces from to at (RowsTo (i + 1))) marks out lost n k
  rows_more i = scattered_then (Replaces from to at (RowsTo i)) (Replaces from to at (InRow i)) (Replaces from to at (RowsTo (i + 1))) (more (RowsTo i) (InRow i) (RowsTo (i + 1))
      (λ a b h. omega arith)
      (λ a b h. omega arith)
      (λ a b h. below_next a i h))

  -- where they are alike, the replacements stand side by side
  pub rows_alike : {marks out lost m l : List ℕ} → Small from → Alike from to at → Scattered (Pairs from.first to.first (replacements_in from)) marks out lost m l
      → Scattered (Replaces from to at (RowsTo from.count)) marks out lost m l
  rows_alike small alike = scattered_as (Pairs from.first to.first (replacements_in from)) (Replaces from to at (RowsTo from.count)) there back
    where
      slot_there : (i j : ℕ) → i < from.count → j < from.count → replace_in to (get_or at i 0) (get_or at j 0) ≡ to.first + slot_of from.gap from.count i j
      slot_there i j hi hj = rw (alike.same i hi, alike.same j hj, ← alike.count, ← alike.gap)

      there : (p q : ℕ) → Pairs from.first to.first (replacements_in from) p q → Replaces from to at (RowsTo from.count) p q
      there p q h =
          let s = slot_some from.gap small.narrow from.count h.k h.below in
          let i = s.0 in
          let j = s.1 in
          let ei = alike.same i s.2 in
          let ej = alike.same j s.3 in
          record {
            i = i;
            j = j;
            within = s.2;
            old = record { from = s.2; to = s.3; same_kind = s.4 };
            old_is = h.pair.0 ∙ ap (λ (k : ℕ). from.first + k) (sym s.5);
            new = rw (ei, ej) (record { from = omega (arith, alike.count, s.2); to = omega (arith, alike.count, s.3); same_kind = λ e. sym alike.gap ∙ s.4 e });
            new_is = h.pair.1 ∙ ap (λ (k : ℕ). to.first + k) (sym s.5) ∙ sym (slot_there i j s.2 s.3);
          }

      back : (p q : ℕ) → Replaces from to at (RowsTo from.count) p q → Pairs from.first to.first (replacements_in from) p q
      back p q r = record {
        k = slot_of from.gap from.count r.i r.j;
        below = slot_below from.gap small.narrow from.count r.i r.j r.old.from r.old.to r.old.same_kind;
        pair = (r.old_is, r.new_is ∙ slot_there r.i r.j r.old.from r.old.to);
      }

-- there is room for all of them side by side
pub room_all : {n : Numbering} {l : List ℕ} → Room n l → 0 < replacements_in n → n.first + replacements_in n ≤ length l
room_all {n} {l} r some =
    let size = replacements_in n in
    let s = slot_some n.gap r.small.narrow n.count (size - 1) (omega arith) in
    let low = r.room s.0 s.1 (record { from = s.2; to = s.3; same_kind = s.4 }) in
    omega (arith, s.5, low)

pub room_alike : {from to : Numbering} {at l : List ℕ} → Alike from to at → Room to l → 0 < replacements_in from → to.first + replacements_in from ≤ length l
room_alike a r = rw (a.count, a.gap) (room_all r)
