-- Marking what is below: the kids of one type, and type by type. Assumes nothing.
use Prim.Native.Nat.{ℕ, suc, ◌+◌, ◌≤◌, ◌<◌}
use mathlib.Core.Path.{◌≡◌, refl, sym, ◌∙◌}
use mathlib.Core.Logic.{◌≢◌, ◌⊎◌, inl, inr}
use mathlib.Core.List.{List}
use native.Mathlib.Nat.{eq-or-lt_of_le}
use native.Mathlib.Decide.{ℕ_discrete}
use native.Mathlib.Omega.{arith}
use lib.ListN.{length, get_or, set, replicate, length-set, get_or-replicate}
use lib.Seq.{get_or-set_same, get_or-set_other}
use Rattle.table.specs.Words.{types}
use Rattle.table.specs.Rule.{children_at, Child}
use Rattle.table.proofs.Lists.{le_or_lt}
use Rattle.table.proofs.Lowest.{tells_eq_as}
use Rattle.table.specs.Check.{Inside}
use Rattle.table.specs.Steps.Childed.{Childed}
use Rattle.table.specs.Below.{Below, here, down}
use Rattle.table.specs.Steps.Flags.{BelowOne, Flags, Added, MarksBelow}
use Rattle.table.specs.Steps.Listed.{Among}
use Rattle.table.proofs.Listings.{listed_room, listed_keeps, listed_here, listed_more, among_more, among_new, listed_none}
use Rattle.table.proofs.Belows.{below_trans}

-- the first i kids are marked
pub record AddedSoFar (kids : List ℕ) (i : ℕ) (marks order : List ℕ) (n : ℕ) (marks-now order-now : List ℕ) (r : ℕ) : Type 0 where
  pub within : i ≤ length kids
  pub flags : Flags r marks-now order-now
  pub more : n ≤ r
  pub kept : (k : ℕ) → k < n → get_or order-now k 0 ≡ get_or order k 0
  pub stay : (x : ℕ) → x < 256 → get_or marks x 0 ≡ 1 → get_or marks-now x 0 ≡ 1
  pub added : (k : ℕ) → n ≤ k → k < r → Among kids (length kids) (get_or order-now k 0)
  pub all : (j : ℕ) → j < i → get_or marks-now (get_or kids j 0) 0 ≡ 1

module _ {n i r : ℕ} {kids marks order marks-now order-now : List ℕ} (s : AddedSoFar kids i marks order n marks-now order-now r)
    (l : i < length kids) {c : ℕ} (is : c ≡ get_or kids i 0) (low : c < 256) where
  -- it is marked already
  pub add_skip : get_or marks-now c 0 ≡ 1 → AddedSoFar kids (i + 1) marks order n marks-now order-now r
  add_skip h = record {
    within = omega arith;
    flags = s.flags;
    more = s.more;
    kept = s.kept;
    stay = s.stay;
    added = s.added;
    all = λ j m. go j (eq-or-lt_of_le m);
  }
    where
      go : (j : ℕ) → (suc j ≡ i + 1) ⊎ (suc j < i + 1) → get_or marks-now (get_or kids j 0) 0 ≡ 1
      go j (inl q) = let z : j ≡ i = omega arith in rw (z, ← is) h
      go j (inr m) = s.all j (omega arith)

  -- it is not
  module _ (d : get_or marks-now c 0 ≢ 1) where
    new : ¬ Among order-now r c
    new a = d (rw a.is at (s.flags.yes a.at a.low))

    pub add_room : r < 256
    add_room = listed_room s.flags.listed c low new

    marked : (x : ℕ) → get_or marks-now x 0 ≡ 1 → get_or (set marks-now c 1) x 0 ≡ 1
    marked x h = go (ℕ_discrete x c)
      where
        go : Dec (x ≡ c) → get_or (set marks-now c 1) x 0 ≡ 1
        go (yes q) = rw q (get_or-set_same marks-now c 1 0 (omega (arith, s.flags.size)))
        go (no f) = get_or-set_other marks-now c x 1 0 f ∙ h

    mark_here : get_or (set marks-now c 1) c 0 ≡ 1
    mark_here = get_or-set_same marks-now c 1 0 (omega (arith, s.flags.size))

    pub add_one_more : AddedSoFar kids (i + 1) marks order n (set marks-now c 1) (set order-now r c) (r + 1)
    add_one_more = record {
      within = omega arith;
      flags = record {
        size = length-set marks-now c 1 ∙ s.flags.size;
        listed = listed_more s.flags.listed c low new;
        yes = λ k m. flagged k (eq-or-lt_of_le m);
        only = λ x m h. only x m h (ℕ_discrete x c);
      };
      more = omega (arith, s.more);
      kept = λ k m. keep k (omega (arith, s.more)) ∙ s.kept k m;
      stay = λ x m h. marked x (s.stay x m h);
      added = λ k m h. added k m (eq-or-lt_of_le h);
      all = λ j m. go j (eq-or-lt_of_le m);
    }
      where
        keep : (k : ℕ) → k < r → get_or (set order-now r c) k 0 ≡ get_or order-now k 0
        keep = listed_keeps s.flags.listed c

        last : get_or (set order-now r c) r 0 ≡ c
        last = listed_here s.flags.listed c low new

        flagged : (k : ℕ) → (suc k ≡ r + 1) ⊎ (suc k < r + 1) → get_or (set marks-now c 1) (get_or (set order-now r c) k 0) 0 ≡ 1
        flagged k (inl q) = let z : k ≡ r = omega arith in rw (z, last) mark_here
        flagged k (inr m) = rw (keep k (omega arith)) (marked (get_or order-now k 0) (s.flags.yes k (omega arith)))

        only : (x : ℕ) → x < 256 → get_or (set marks-now c 1) x 0 ≡ 1 → Dec (x ≡ c) → Among (set order-now r c) (r + 1) x
        only x m h (yes q) = rw q (among_new s.flags.listed c low new)
        only x m h (no f) = among_more s.flags.listed c low new x (s.flags.only x m (sym (get_or-set_other marks-now c x 1 0 f) ∙ h))

        added : (k : ℕ) → n ≤ k → (suc k ≡ r + 1) ⊎ (suc k < r + 1) → Among kids (length kids) (get_or (set order-now r c) k 0)
        added k m (inl q) = let z : k ≡ r = omega arith in rw (z, last) (record { at = i; low = l; is = sym is })
        added k m (inr h) = rw (keep k (omega arith)) (s.added k m (omega arith))

        go : (j : ℕ) → (suc j ≡ i + 1) ⊎ (suc j < i + 1) → get_or (set marks-now c 1) (get_or kids j 0) 0 ≡ 1
        go j (inl q) = let z : j ≡ i = omega arith in rw (z, ← is) mark_here
        go j (inr m) = marked (get_or kids j 0) (s.all j (omega arith))

-- those listed are types below one of the types given; the children of the first head of them are marked, and so are the types given
pub record Marking (ws from : List ℕ) (head : ℕ) (marks order : List ℕ) (n : ℕ) : Type 0 where
  pub passed : head ≤ n
  pub flags : Flags n marks order
  pub inside : (k : ℕ) → k < n → get_or order k 0 < types ws
  pub below : (k : ℕ) → k < n → BelowOne ws from (get_or order k 0)
  pub closed : (k z : ℕ) → k < head → Child ws (get_or order k 0) z → get_or marks z 0 ≡ 1
  pub given : (i : ℕ) → i < length from → get_or marks (get_or from i 0) 0 ≡ 1

-- nothing is marked
pub flags_none : {order : List ℕ} → length order ≡ 256 → Flags 0 (replicate 256 0) order
flags_none s = record {
  size = refl;
  listed = listed_none (omega arith);
  yes = λ k l. absurd (omega arith);
  only = λ x l h. absurd (omega (arith, get_or-replicate {A = ℕ} 256 x 0 0 l, h));
}

-- the types given are numbers below 256
pub inside_256 : {ws : List ℕ} (list : List ℕ) → Childed ws → Inside (types ws) list → Inside 256 list
inside_256 list g f i l = omega (arith, f i l, g.tiled.laid.few)

pub mark_start : {ws from marks order marks-now order-now : List ℕ} {n : ℕ} → Inside (types ws) from → Added from marks order 0 marks-now order-now n
    → Marking ws from 0 marks-now order-now n
mark_start {ws} {from} {order-now = order-now} f a = record {
  passed = omega arith;
  flags = a.flags;
  inside = λ k l. low k (a.added k (omega arith) l);
  below = λ k l. one k (a.added k (omega arith) l);
  closed = λ k z l. absurd (omega arith);
  given = a.all;
}
  where
    low : (k : ℕ) → Among from (length from) (get_or order-now k 0) → get_or order-now k 0 < types ws
    low k a = rw (← a.is) (f a.at a.low)

    one : (k : ℕ) → Among from (length from) (get_or order-now k 0) → BelowOne ws from (get_or order-now k 0)
    one k a = record { at = a.at; within = a.low; below = rw a.is here }

-- the type at head
module _ {ws from kids marks order : List ℕ} {head n : ℕ} (g : Childed ws) (m : Marking ws from head marks order n) (h : head < n) (is : kids ≡ children_at ws (get_or order head 0)) where
  kids_types : Inside (types ws) kids
  kids_types = rw is (g.inside (get_or order head 0) (m.inside head h))

  pub mark_asks : Flags n marks order × Inside 256 kids
  mark_asks = (m.flags, inside_256 kids g kids_types)

  pub mark_more : {marks-now order-now : List ℕ} {r : ℕ} → Inside (types ws) from → Added kids marks order n marks-now order-now r → Marking ws from (head + 1) marks-now order-now r
  mark_more {marks-now} {order-now} {r} f a = record {
    passed = omega (arith, a.more);
    flags = a.flags;
    inside = λ k l. low k l (le_or_lt n k);
    below = λ k l. go k l (le_or_lt n k);
    closed = λ k z l c. closed k z (eq-or-lt_of_le l) c;
    given = λ i l. a.stay (get_or from i 0) (inside_256 from g f i l) (m.given i l);
  }
    where
      kid : (x : ℕ) → Among kids (length kids) x → Child ws (get_or order head 0) x
      kid x a = record { parent = m.inside head h; inside = rw (← a.is) (kids_types a.at a.low); at = a.at; within = rw (← is) a.low; is = rw (← is) a.is }

      low : (k : ℕ) → k < r → (n ≤ k) ⊎ (k < n) → get_or order-now k 0 < types ws
      low k l (inl o) = (kid (get_or order-now k 0) (a.added k o l)).inside
      low k l (inr o) = rw (a.kept k o) (m.inside k o)

      kid_below : (x : ℕ) → Among kids (length kids) x → BelowOne ws from x
      kid_below x s =
          let b = m.below head h in
          record { at = b.at; within = b.within; below = below_trans (down x (kid x s) here) b.below }

      go : (k : ℕ) → k < r → (n ≤ k) ⊎ (k < n) → BelowOne ws from (get_or order-now k 0)
      go k l (inl o) = kid_below (get_or order-now k 0) (a.added k o l)
      go k l (inr o) = rw (a.kept k o) (m.below k o)

      closed : (k z : ℕ) → (suc k ≡ head + 1) ⊎ (suc k < head + 1) → Child ws (get_or order-now k 0) z → get_or marks-now z 0 ≡ 1
      closed k z (inl q) c =
          let j : k ≡ head = omega arith in
          let d : Child ws (get_or order head 0) z = rw (a.kept head h) at (rw j at c) in
          let here : get_or kids d.at 0 ≡ z = rw is d.is in
          rw here at (a.all d.at (rw is d.within))
      closed k z (inr o) c = a.stay z (omega (arith, c.inside, g.tiled.laid.few)) (m.closed k z (omega arith) (rw (a.kept k (omega arith)) at c))

-- all listed are passed: what is marked is closed downwards
pub mark_all : {ws from marks order : List ℕ} {head n : ℕ} → Childed ws → Inside (types ws) from → Marking ws from head marks order n → n ≤ head → MarksBelow ws from marks
mark_all {ws} {from} {marks} {order} {head} {n} g f m h = record {
  each = λ x l. tells_eq_as (BelowOne ws from x) (get_or marks x 0) 1 (λ e. out x (marked x l e)) (λ b. into x b);
}
  where
    marked : (x : ℕ) → x < types ws → get_or marks x 0 ≡ 1 → Among order n x
    marked x l e = m.flags.only x (omega (arith, g.tiled.laid.few)) e

    out : (x : ℕ) → Among order n x → BelowOne ws from x
    out x a = rw a.is at (m.below a.at a.low)

    spread : (x y : ℕ) → y < types ws → get_or marks y 0 ≡ 1 → Below ws x y → get_or marks x 0 ≡ 1
    spread x y l e here = e
    spread x y l e (down z c b) = spread x z c.inside (next (marked y l e)) b
      where
        next : Among order n y → get_or marks z 0 ≡ 1
        next a = m.closed a.at z (omega (arith, a.low)) (rw a.is c)

    into : (x : ℕ) → BelowOne ws from x → get_or marks x 0 ≡ 1
    into x b = spread x (get_or from b.at 0) (f b.at b.within) (m.given b.at b.within) b.below
