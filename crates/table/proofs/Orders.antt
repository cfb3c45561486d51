-- Where all types are taken, they stand top down, none is on a cycle, and each is reached from the root. Assumes nothing.
use Prim.Native.Nat.{ℕ, zero, suc, ◌-◌, ◌≤◌, ◌<◌}
use mathlib.Core.Path.{◌≡◌, sym, ap, ◌∙◌}
use mathlib.Core.Logic.{◌≢◌, ◌⊎◌, inl, inr}
use mathlib.Core.List.{List}
use native.Mathlib.Decide.{ℕ_discrete}
use native.Mathlib.Omega.{arith}
use lib.ListN.{get_or}
use Rattle.table.specs.Words.{types, root}
use Rattle.table.specs.Rule.{children_at, Child}
use Rattle.table.specs.Below.{Below, here, down, OnCycle, FromRoot}
use Rattle.table.specs.Steps.Listed.{Among, Listed}
use Rattle.table.specs.Steps.Order.{BottomUp}
use Rattle.table.specs.Steps.Counts.{entries_of, unpassed_sum, turned, Taking}
use Rattle.table.specs.Steps.Accepting.{Ordered}
use Rattle.table.proofs.Belows.{below_trans}
use Rattle.table.proofs.Sums.{sum_left, occurs_none}
use Rattle.table.proofs.Listings.{among, listed_room, turned_at}
use Rattle.table.proofs.Entries.{entries_child}

-- each type once, and after its parents
pub record TopDown (ws order : List ℕ) : Type 0 where
  pub inside : (k : ℕ) → k < types ws → get_or order k 0 < types ws
  pub every : (x : ℕ) → x < types ws → (k : ℕ) × (k < types ws) × (get_or order k 0 ≡ x)
  pub once : (j k : ℕ) → j < types ws → k < types ws → get_or order j 0 ≡ get_or order k 0 → j ≡ k
  pub before : (j k : ℕ) → j < types ws → k < types ws → Child ws (get_or order j 0) (get_or order k 0) → j < k

-- n types are taken, the root first and each other one, which is somebody's child, after all its parents. No more can be: a type that is left and is
-- somebody's child has a parent that is left.
pub record Taken (ws order : List ℕ) (n : ℕ) : Type 0 where
  pub listed : Listed (types ws) n order
  pub some : 0 < n
  pub first : get_or order 0 0 ≡ root ws
  pub parents : (k y : ℕ) → k < n → Child ws y (get_or order k 0) → Among order k y
  pub others : (k : ℕ) → k < n → k ≢ 0 → (y : ℕ) × Child ws y (get_or order k 0)
  pub rest : (x y : ℕ) → ¬ Among order n x → Child ws y x → (z : ℕ) × Child ws z x × (¬ Among order n z)

-- all that were taken are passed
pub taken_now : {ws counts order : List ℕ} {n : ℕ} → Taking ws n 0 counts order n → Taken ws order n
taken_now {ws} {counts} {order} {n} t = record {
  listed = t.listed;
  some = t.some;
  first = t.first;
  parents = t.parents;
  others = t.others;
  rest = rest;
}
  where
    rest : (x y : ℕ) → ¬ Among order n x → Child ws y x → (z : ℕ) × Child ws z x × (¬ Among order n z)
    rest x y out c = go (sum_left (entries_of ws x) order (types ws) n (some (ℕ_discrete (get_or counts x 0) 0)))
      where
        some : Dec (get_or counts x 0 ≡ 0) → 1 ≤ unpassed_sum (types ws) (entries_of ws x) order n
        some (yes z) = absurd (out (t.all x y c z))
        some (no d) = omega (arith, t.left x c.inside, occurs_none (children_at ws (get_or order n 0)) x)

        go : (z : ℕ) × (z < types ws) × (1 ≤ entries_of ws x z) × (¬ Among order n z) → (z : ℕ) × Child ws z x × (¬ Among order n z)
        go (z, m, s, left) = (z, entries_child x z c.inside m s, left)

-- all are taken
module _ {ws order : List ℕ} (t : Taken ws order (types ws)) where
  pub top_down : TopDown ws order
  top_down = record {
    inside = t.listed.inside;
    every = λ x l. every x l (among order (types ws) x);
    once = t.listed.once;
    before = λ j k l m c. before j k l (t.parents k (get_or order j 0) m c) m;
  }
    where
      every : (x : ℕ) → x < types ws → Among order (types ws) x ⊎ (¬ Among order (types ws) x) → (k : ℕ) × (k < types ws) × (get_or order k 0 ≡ x)
      every x l (inl a) = (a.at, a.low, a.is)
      every x l (inr out) = absurd (omega (arith, listed_room t.listed x l out))

      before : (j k : ℕ) → j < types ws → Among order k (get_or order j 0) → k < types ws → j < k
      before j k l a m = omega (arith, a.low, t.listed.once a.at j (omega (arith, a.low)) l a.is)

  -- each is reached, since a parent before it is
  reached_at : (n k : ℕ) → k < n → k < types ws → FromRoot ws (get_or order k 0)
  reached_at zero k l m = absurd (omega arith)
  reached_at (suc n) k l m = go (ℕ_discrete k 0) (λ j h i. reached_at n j (omega arith) i)
    where
      go : Dec (k ≡ 0) → ((j : ℕ) → j < k → j < types ws → FromRoot ws (get_or order j 0)) → FromRoot ws (get_or order k 0)
      go (yes e) again = rw (e, t.first) here
      go (no d) again = up (t.others k m d)
        where
          up : (y : ℕ) × Child ws y (get_or order k 0) → FromRoot ws (get_or order k 0)
          up (y, c) =
              let a = t.parents k y m c in
              below_trans (down (get_or order k 0) c here) (rw a.is at (again a.at a.low (omega (arith, a.low))))

-- along an order the types below stand later
module _ {ws order : List ℕ} (d : TopDown ws order) where
  below_later : (j k : ℕ) → j < types ws → k < types ws → {x y : ℕ} → get_or order j 0 ≡ y → get_or order k 0 ≡ x → Below ws x y → j ≤ k
  below_later j k l m p q here = omega (arith, d.once j k l m (p ∙ sym q))
  below_later j k l m p q (down z c b) = go (d.every z c.inside) (λ i h e. below_later i k h m e q b)
    where
      go : (i : ℕ) × (i < types ws) × (get_or order i 0 ≡ z) → ((i : ℕ) → i < types ws → get_or order i 0 ≡ z → i ≤ k) → j ≤ k
      go (i, h, e) again = omega (arith, again i h e, d.before j i l h (rw (p, e) c))

  no_cycle : (t : ℕ) → ¬ OnCycle ws t
  no_cycle t o = go (d.every t o.is_child.parent) (d.every o.child o.is_child.inside)
    where
      go : (j : ℕ) × (j < types ws) × (get_or order j 0 ≡ t) → (k : ℕ) × (k < types ws) × (get_or order k 0 ≡ o.child) → ⊥
      go (j, l, p) (k, m, q) = absurd (omega (arith, below_later k j m l q p o.below, d.before j k l m (rw (p, q) o.is_child)))

pub taken_ordered : {ws order : List ℕ} → Taken ws order (types ws) → Ordered ws
taken_ordered {ws} {order} t = record { off_cycle = λ x l. no_cycle (top_down t) x; reached = λ x l. reached x ((top_down t).every x l) }
  where
    reached : (x : ℕ) → (k : ℕ) × (k < types ws) × (get_or order k 0 ≡ x) → FromRoot ws x
    reached x (k, h, e) = rw e at (reached_at t (types ws) k h h)

-- the order turned round
pub backwards : {ws order : List ℕ} → TopDown ws (turned order (types ws)) → BottomUp ws order
backwards {ws} {order} d = record {
  inside = λ k l. rw (at k l) (d.inside (types ws - 1 - k) (omega arith));
  every = λ x l. every x (d.every x l);
  once = λ j k l m e. omega (arith, d.once (types ws - 1 - j) (types ws - 1 - k) (omega arith) (omega arith) (sym (at j l) ∙ e ∙ at k m));
  after = λ j k l m c. omega (arith, d.before (types ws - 1 - k) (types ws - 1 - j) (omega arith) (omega arith) (rw (at k m, at j l) at c));
}
  where
    at : (k : ℕ) → k < types ws → get_or order k 0 ≡ get_or (turned order (types ws)) (types ws - 1 - k) 0
    at k l =
        let back : k ≡ types ws - 1 - (types ws - 1 - k) = omega arith in
        ap (λ (i : ℕ). get_or order i 0) back ∙ sym (turned_at order (types ws) (types ws - 1 - k) (omega arith))

    every : (x : ℕ) → (k : ℕ) × (k < types ws) × (get_or (turned order (types ws)) k 0 ≡ x) → (k : ℕ) × (k < types ws) × (get_or order k 0 ≡ x)
    every x (k, l, e) = (types ws - 1 - k, omega arith, sym (turned_at order (types ws) k l) ∙ e)
