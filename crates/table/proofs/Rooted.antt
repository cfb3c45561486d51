-- Where no type is on a cycle and each is reached from the root, all are taken; so taking tells whether it is so. Assumes nothing.
use Prim.Native.Nat.{ℕ, zero, suc, ◌-◌, ◌≤◌, ◌<◌}
use mathlib.Core.Path.{◌≡◌, refl, sym, ◌∙◌}
use mathlib.Core.Logic.{◌≢◌, ◌⊎◌, inl, inr}
use mathlib.Core.Bool.{Bool, true, false, true≢false}
use mathlib.Core.List.{List}
use native.Mathlib.Decide.{ℕ_discrete}
use native.Mathlib.Omega.{arith}
use lib.Dec.{eqb}
use lib.ListN.{length, get_or}
use Rattle.table.specs.Sum.{sum_below}
use Rattle.table.specs.Words.{types, root}
use Rattle.table.specs.Rule.{Child}
use Rattle.table.specs.Steps.Childed.{Childed}
use Rattle.table.specs.Below.{Below, here, down, OnCycle}
use Rattle.table.specs.Steps.Listed.{Among}
use Rattle.table.specs.Steps.Order.{BottomUp}
use Rattle.table.specs.Steps.Counts.{entries_of, Counts, turned, Filling}
use Rattle.table.specs.Steps.Accepting.{Ordered, Ordering}
use Rattle.table.proofs.Lists.{le_or_lt}
use Rattle.table.proofs.Lowest.{told_yes, tells_eq, tells_eq_as}
use Rattle.table.proofs.Belows.{below_trans}
use Rattle.table.proofs.Sums.{sum_some}
use Rattle.table.proofs.Listings.{listed_within, listed_left}
use Rattle.table.proofs.Climbs.{climb_cyclic}
use Rattle.table.proofs.Entries.{entries_child}
use Rattle.table.proofs.Orders.{Taken, taken_now, top_down, taken_ordered, backwards}

-- an ordered table: the root is nobody's child, every other type is somebody's
module _ {ws : List ℕ} (o : Ordered ws) where
  root_free : (y : ℕ) → ¬ Child ws y (root ws)
  root_free y c = o.off_cycle (root ws) c.inside (go (o.reached y c.parent) c)
    where
      go : {y : ℕ} → Below ws y (root ws) → Child ws y (root ws) → OnCycle ws (root ws)
      go here c = record { child = root ws; is_child = c; below = here }
      go (down z d b) c = record { child = z; is_child = d; below = below_trans (down (root ws) c here) b }

  parent : (x : ℕ) → x < types ws → x ≢ root ws → (y : ℕ) × Child ws y x
  parent x l d = last d (o.reached x l)
    where
      last : {x y : ℕ} → x ≢ y → Below ws x y → (z : ℕ) × Child ws z x
      last d here = absurd (d refl)
      last {x} {y} d (down z c b) = go (ℕ_discrete x z) (λ e. last e b)
        where
          go : Dec (x ≡ z) → (x ≢ z → (z : ℕ) × Child ws z x) → (z : ℕ) × Child ws z x
          go (yes e) again = (y, rw e c)
          go (no f) again = again f

-- some are left: walk up from one of them, and come to one twice
module _ {ws order : List ℕ} {n : ℕ} (o : Ordered ws) (t : Taken ws order n) where
  record Left : Type 0 where
    pub type : ℕ
    pub low : type < types ws
    pub out : ¬ Among order n type

  left_parent : (l : Left) → (y : ℕ) × Child ws y l.type × (¬ Among order n y)
  left_parent l = go (parent o l.type l.low (λ e. l.out (record { at = 0; low = t.some; is = t.first ∙ sym e })))
    where
      go : (y : ℕ) × Child ws y l.type → (y : ℕ) × Child ws y l.type × (¬ Among order n y)
      go (y, c) = t.rest l.type y l.out c

  up : Left → Left
  up l = record { type = (left_parent l).0; low = (left_parent l).1.parent; out = (left_parent l).2 }

  module _ (l : Left) where
    walk : ℕ → Left
    walk zero = l
    walk (suc k) = up (walk k)

    step : (k : ℕ) → Child ws (walk (suc k)).type (walk k).type
    unfolding walk up
    step k = (left_parent (walk k)).1

    none_left : ⊥
    none_left = let c = climb_cyclic (λ k. (walk k).type) (λ k h. (walk k).low) (λ k h. step k) in o.off_cycle c.type c.low c.cycle

  all_taken : n ≡ types ws
  all_taken = go (le_or_lt (types ws) n)
    where
      clash : (x : ℕ) × (x < types ws) × (¬ Among order n x) → ⊥
      clash (x, l, out) = none_left (record { type = x; low = l; out = out })

      go : (types ws ≤ n) ⊎ (n < types ws) → n ≡ types ws
      go (inl h) = omega (arith, listed_within t.listed)
      go (inr h) = absurd (clash (listed_left t.listed h))

-- the root is somebody's child: no
pub refused : {ws counts order : List ℕ} {r : ℕ} → Childed ws → Counts ws counts → length order ≡ 256 → r ≡ root ws → get_or counts r 0 ≢ 0 → Ordering ws order false
refused {ws} {counts} {order} {r} g c s is d = record { size = s; tells = λ o. clash o (sum_some (types ws) named); up = λ e. absurd (true≢false (sym e)) }
  where
    named : 1 ≤ sum_below (entries_of ws (root ws)) (types ws)
    named = omega (arith, c.each (root ws) g.tiled.laid.root_inside, rw is at d)

    clash : Ordered ws → (y : ℕ) × (y < types ws) × (1 ≤ entries_of ws (root ws) y) → ⊥
    clash o (y, m, h) = root_free o y (entries_child (root ws) y g.tiled.laid.root_inside m h)

-- all that were taken are passed: yes, where no place is left
pub filled : {ws counts order : List ℕ} {place free : ℕ} → Filling ws place free counts order → place ≤ free → Ordering ws order (eqb free 0)
filled {ws} {counts} {order} {place} {free} f h = record {
  size = f.size;
  tells = tells_eq_as (Ordered ws) free 0 (λ e. taken_ordered (all e)) (λ o. omega (arith, all_taken o taken, f.low, f.few, taken.some));
  up = λ e. backwards (top_down (all (told_yes (eqb free 0) (tells_eq free 0) e)));
}
  where
    taken : Taken ws (turned order (types ws)) (types ws - free)
    taken = let e : place ≡ free = omega (arith, f.low) in taken_now (rw e at f.taking)

    all : free ≡ 0 → Taken ws (turned order (types ws)) (types ws)
    all e = let whole : types ws - free ≡ types ws = omega arith in rw whole at taken

-- a table that is so has the order
pub ordered_up : {ws order : List ℕ} {told : Bool} → Ordering ws order told → Ordered ws → BottomUp ws order
ordered_up {told = true} r o = r.up refl
ordered_up {told = false} r o = absurd (r.tells o)
