-- Whether something is forbidden of a type's own, and below it. Assumes nothing.
use Rattle.std.proofs.Common.{ℕ, suc, ◌+◌, ◌-◌, ◌≤◌, ◌<◌, ◌≡◌, refl, sym, ◌∙◌, ◌≢◌, ◌⊎◌, inl, inr, List, eq-or-lt_of_le, arith, length, get_or, set, take, drop, length-set, length-drop, get_or-set_same, get_or-set_other, get_or-take, get_or-drop, length-take-le}
use Rattle.table.specs.Words.{types}
use Rattle.table.specs.Rule.{children_at, child_at, Child}
use Rattle.table.specs.Privilege.{first_privilege, privileges_at, Belongs}
use Rattle.table.specs.Below.{Below, here}
use Rattle.table.specs.Below as below
use Rattle.table.specs.Steps.Order.{BottomUp}
use Rattle.table.proofs.Facts.{facts, child_at_lem}
use Rattle.table.proofs.Privileges.{first_next, first_within}
use Rattle.table.proofs.Test.{Test, is_at_most, is_equal, both, some, settle}
use Rattle.policy.specs.Marks.{Legal, Policy}
use Rattle.verdict.specs.Below.{ForbiddenBelow}
use Rattle.verdict.specs.Steps.Spoils.{ForbiddenOwn, Range, Flag, up, down, Joined, risen, kept, Flags, Flagged, Agree}

pub flag_as : {P Q : ℕ → Type 0} {r : ℕ} → ((q : ℕ) → P q → Q q) → ((q : ℕ) → Q q → P q) → Flag P r → Flag Q r
flag_as f g (up p h e) = up p (f p h) e
flag_as f g (down n e) = down (λ p h. n p (g p h)) e

-- a stretch in which no mark is above 1 has none that is forbidden
pub range_none : {marks : List ℕ} {from until : ℕ} → until ≤ length marks
    → ((i : ℕ) → i < length (take (until - from) (drop from marks)) → get_or (take (until - from) (drop from marks)) i 0 ≤ 1) → (q : ℕ) → ¬ Range marks from until q
range_none {marks} {from} {until} l h q r = absurd (omega (arith, h (q - from) inside, r.forbidden, read))
  where
    inside : q - from < length (take (until - from) (drop from marks))
    inside = omega (arith, length-take-le (until - from) (drop from marks) (omega (arith, length-drop from marks)), r.low, r.high)

    here : from + (q - from) ≡ q
    here = omega (arith, r.low)

    read : get_or (take (until - from) (drop from marks)) (q - from) 0 ≡ get_or marks q 0
    read = get_or-take (until - from) (drop from marks) (q - from) 0 (omega (arith, r.low, r.high)) ∙ get_or-drop from marks (q - from) 0 ∙ rw here

-- a stretch in which one is has one that is forbidden
module _ (marks : List ℕ) (from until : ℕ) where
  abbrev in_range : Test ((p : ℕ) × (p < until) × ((from ≤ p) × (get_or marks p 0 ≡ 2)))
  in_range = some until (λ p. both (is_at_most from p) (is_equal (get_or marks p 0) 2))

  pub range_some : from ≤ until → until ≤ length marks → ((p : ℕ) → p < until → Legal marks p)
      → ¬ ((i : ℕ) → i < length (take (until - from) (drop from marks)) → get_or (take (until - from) (drop from marks)) i 0 ≤ 1) → (p : ℕ) × Range marks from until p
  range_some l m legal not-all = elim (settle in_range) [
    | inl h ↦ (h.0, record { low = h.2.0; high = h.1; forbidden = h.2.1 })
    | inr none ↦ absurd (not-all (λ i k. low i k (λ e. none (from + i, inside i k, (omega arith, e)))))
  ]
    where
      inside : (i : ℕ) → i < length (take (until - from) (drop from marks)) → from + i < until
      inside i k = omega (arith, length-take-le (until - from) (drop from marks) (omega (arith, length-drop from marks)))

      read : (i : ℕ) → i < length (take (until - from) (drop from marks)) → get_or (take (until - from) (drop from marks)) i 0 ≡ get_or marks (from + i) 0
      read i k = get_or-take (until - from) (drop from marks) i 0 (omega (arith, inside i k)) ∙ get_or-drop from marks i 0

      low : (i : ℕ) → i < length (take (until - from) (drop from marks)) → get_or marks (from + i) 0 ≢ 2 → get_or (take (until - from) (drop from marks)) i 0 ≤ 1
      low i k d = omega (arith, read i k, legal (from + i) (inside i k))

-- a type's own privileges run from its first to that of the next
pub flag_own : {ws marks : List ℕ} {x r : ℕ} → x < types ws → Flag (Range marks (first_privilege ws x) (first_privilege ws x + privileges_at ws x)) r
    → Flag (ForbiddenOwn ws marks x) r
flag_own {ws} {marks} {x} h = flag_as
    (λ q p. record { belongs = record { type = h; from = p.low; until = p.high }; forbidden = p.forbidden })
    (λ q p. record { low = p.belongs.from; high = p.belongs.until; forbidden = p.forbidden })

-- the privileges of type x stand from its first on, and behind them those of the next
pub record Own (ws marks : List ℕ) (x first count : ℕ) : Type 0 where
  pub next : first + count ≡ first_privilege ws (x + 1)
  pub inside : first + count ≤ length marks
  pub low : first + count ≤ 4096

pub own_here : {ws marks : List ℕ} {x first count : ℕ} → Policy ws marks → x < types ws → first ≡ first_privilege ws x → count ≡ privileges_at ws x → Own ws marks x first count
own_here {ws} {marks} {x} {first} {count} pol h e n =
    let next : first + count ≡ first_privilege ws (x + 1) = rw (e, n) (sym (first_next ws x)) in
    let most = first_within ws (x + 1) (omega arith) in
    record { next = next; inside = omega (arith, pol.fit.size); low = omega (arith, (facts pol.accepted).privileges_few) }

-- what is forbidden below a type is its own, or below a child
own_below : {ws marks : List ℕ} {y p : ℕ} → ForbiddenOwn ws marks y p → ForbiddenBelow ws marks y p
own_below {y = y} o = record { below = record { type = y; belongs = o.belongs; below = here }; forbidden = o.forbidden }

child_below : {ws marks : List ℕ} {y z p : ℕ} → Child ws y z → ForbiddenBelow ws marks z p → ForbiddenBelow ws marks y p
child_below {z = z} c f = record {
  below = record { type = f.below.type; belongs = f.below.belongs; below = below.down z c f.below.below };
  forbidden = f.forbidden;
}

below_cases : {ws marks : List ℕ} {y p : ℕ} → ForbiddenBelow ws marks y p
    → ForbiddenOwn ws marks y p ⊎ ((z : ℕ) × Child ws y z × ForbiddenBelow ws marks z p)
below_cases {ws} {marks} {y} {p} f = go f.below.type f.below.belongs f.below.below
  where
    go : {y : ℕ} (x : ℕ) → Belongs ws p x → Below ws x y → ForbiddenOwn ws marks y p ⊎ ((z : ℕ) × Child ws y z × ForbiddenBelow ws marks z p)
    go x b here = inl (record { belongs = b; forbidden = f.forbidden })
    go x b (below.down z c d) = inr (z, c, record { below = record { type = x; belongs = b; below = d }; forbidden = f.forbidden })

-- so its flag is 1 where its own is or that of a child
module _ {ws marks : List ℕ} (pol : Policy ws marks) {y : ℕ} (l : y < types ws) {flags : List ℕ} {own r : ℕ}
    (kids : (z : ℕ) → Child ws y z → Flag (ForbiddenBelow ws marks z) (get_or flags z 0)) (mine : Flag (ForbiddenOwn ws marks y) own)
    (joined : Joined (length (children_at ws y)) (children_at ws y) flags own r) where
  kid : (i : ℕ) → i < length (children_at ws y) → Child ws y (child_at ws y i)
  kid i h = child_at_lem pol.accepted y i l (rw (← (facts pol.accepted).children_here y l) h)

  pub flag_join : Flag (ForbiddenBelow ws marks y) r
  flag_join = go joined mine
    where
      over : (i : ℕ) → i < length (children_at ws y) → get_or flags (child_at ws y i) 0 ≡ 1 → r ≡ 1 → Flag (ForbiddenBelow ws marks (child_at ws y i)) (get_or flags (child_at ws y i) 0)
          → Flag (ForbiddenBelow ws marks y) r
      over i h e f (up p w g) = up p (child_below (kid i h) w) f
      over i h e f (down n g) = absurd (omega arith)

      under : ((i : ℕ) → i < length (children_at ws y) → get_or flags (child_at ws y i) 0 ≢ 1) → (q : ℕ) (z : ℕ) → Child ws y z → ForbiddenBelow ws marks z q → ⊥
      under n q z c w = elim (kids z c) [
        | up p v g ↦ n c.at c.within (rw c.is g)
        | down f g ↦ f q w
      ]

      go : Joined (length (children_at ws y)) (children_at ws y) flags own r → Flag (ForbiddenOwn ws marks y) own → Flag (ForbiddenBelow ws marks y) r
      go (risen i h e f) m = over i h e f (kids (child_at ws y i) (kid i h))
      go (kept n e) (up p w f) = up p (own_below w) (e ∙ f)
      go (kept n e) (down d f) = down (λ q w. elim (below_cases w) [ inl o ↦ d q o | inr (z, c, v) ↦ under n q z c v ]) (e ∙ f)

-- a pass along the order that stands at k: those passed have the flag of what is below, the others that of their own
pub record Climbed (ws marks order : List ℕ) (k : ℕ) (old flags : List ℕ) : Type 0 where
  pub within : k ≤ types ws
  pub size : length flags ≡ 256
  pub done : (j : ℕ) → j < k → Flag (ForbiddenBelow ws marks (get_or order j 0)) (get_or flags (get_or order j 0) 0)
  pub left : (j : ℕ) → k ≤ j → j < types ws → Flag (ForbiddenOwn ws marks (get_or order j 0)) (get_or flags (get_or order j 0) 0)
  pub rest : (x : ℕ) → types ws ≤ x → get_or flags x 0 ≡ get_or old x 0

module _ {ws marks order : List ℕ} {k : ℕ} {old flags : List ℕ} (pol : Policy ws marks) (bottom : BottomUp ws order) (p : Climbed ws marks order k old flags)
    (h : k < types ws) where
  few : types ws ≤ 256
  few = (facts pol.accepted).few

  kids_done : (z : ℕ) → Child ws (get_or order k 0) z → Flag (ForbiddenBelow ws marks z) (get_or flags z 0)
  kids_done z c = go (bottom.every z c.inside)
    where
      go : (j : ℕ) × (j < types ws) × (get_or order j 0 ≡ z) → Flag (ForbiddenBelow ws marks z) (get_or flags z 0)
      go (j, l, e) = rw e at (p.done j (bottom.after j k l h (rw e c)))

  pub climb_more : {r : ℕ} → Joined (length (children_at ws (get_or order k 0))) (children_at ws (get_or order k 0)) flags (get_or flags (get_or order k 0) 0) r
      → Climbed ws marks order (k + 1) old (set flags (get_or order k 0) r)
  climb_more {r} joined = record {
    within = omega arith;
    size = length-set flags (get_or order k 0) r ∙ p.size;
    done = λ j l. go j (omega arith) (eq-or-lt_of_le l);
    left = λ j l m. rw (other j m (omega arith)) (p.left j (omega arith) m);
    rest = λ x l. get_or-set_other flags (get_or order k 0) x r 0 (λ e. omega (arith, bottom.inside k h)) ∙ p.rest x l;
  }
    where
      here_now : get_or (set flags (get_or order k 0) r) (get_or order k 0) 0 ≡ r
      here_now = get_or-set_same flags (get_or order k 0) r 0 (omega (arith, p.size, few, bottom.inside k h))

      other : (j : ℕ) → j < types ws → j ≢ k → get_or (set flags (get_or order k 0) r) (get_or order j 0) 0 ≡ get_or flags (get_or order j 0) 0
      other j m d = get_or-set_other flags (get_or order k 0) (get_or order j 0) r 0 (λ e. d (bottom.once j k m h e))

      go : (j : ℕ) → j < types ws → (suc j ≡ k + 1) ⊎ (suc j < k + 1) → Flag (ForbiddenBelow ws marks (get_or order j 0)) (get_or (set flags (get_or order k 0) r) (get_or order j 0) 0)
      go j m (inl e) =
          let q : j ≡ k = omega arith in
          rw (q, here_now) (flag_join pol (bottom.inside k h) kids_done (p.left k (omega arith) h) joined)
      go j m (inr l) = rw (other j m (omega arith)) (p.done j (omega arith))

pub climb_start : {ws marks order old flags : List ℕ} → BottomUp ws order → Flags ws (ForbiddenOwn ws marks) old flags → Climbed ws marks order 0 flags flags
climb_start b o = record { within = omega arith; size = o.size; done = λ j l. absurd (omega arith); left = λ j l m. o.each _ (b.inside j m); rest = λ x l. refl }

pub climb_all : {ws marks order old own flags : List ℕ} {k : ℕ} → BottomUp ws order → Flags ws (ForbiddenOwn ws marks) old own → Climbed ws marks order k own flags → types ws ≤ k
    → Flags ws (ForbiddenBelow ws marks) old flags
climb_all {ws} {marks} {order} {flags = flags} b o p h = record { size = p.size; each = λ x l. go x (b.every x l); rest = λ x l. p.rest x l ∙ o.rest x l }
  where
    go : (x : ℕ) → (j : ℕ) × (j < types ws) × (get_or order j 0 ≡ x) → Flag (ForbiddenBelow ws marks x) (get_or flags x 0)
    go x (j, m, e) = rw e at (p.done j (omega arith))

-- one more child is looked at
module _ {n : ℕ} {kids flags : List ℕ} {own r c : ℕ} (j : Joined n kids flags own r) (e : c ≡ get_or flags (get_or kids n 0) 0) where
  pub joined_take : c ≡ 1 → Joined (n + 1) kids flags own 1
  joined_take h = risen n (omega arith) (sym e ∙ h) refl

  pub joined_keep : c ≢ 1 → Joined (n + 1) kids flags own r
  joined_keep h = go j
    where
      last : (i : ℕ) → i < n + 1 → ((k : ℕ) → k < n → get_or flags (get_or kids k 0) 0 ≢ 1) → get_or flags (get_or kids i 0) 0 ≢ 1
      last i l f = elim (eq-or-lt_of_le l) [
        | inl q ↦ let z : i ≡ n = omega arith in λ g. h (e ∙ (rw z at g))
        | inr k ↦ f i (omega arith)
      ]

      go : Joined n kids flags own r → Joined (n + 1) kids flags own r
      go (risen i l g f) = risen i (omega arith) g f
      go (kept f g) = kept (λ i l. last i l f) g

-- flags that are right tell of the right types
pub flags_agree : {ws old flags : List ℕ} {R : ℕ → ℕ → Type 0} → Flags ws R old flags → Agree ws (Flagged flags) R
flags_agree {ws} {old} {flags} {R} f = record { onto = λ y p l e. onto y e (f.each y l); back = λ y q l w. (0, back y q w (f.each y l)) }
  where
    onto : (y : ℕ) → get_or flags y 0 ≡ 1 → Flag (R y) (get_or flags y 0) → (q : ℕ) × R y q
    onto y e (up p w g) = (p, w)
    onto y e (down n g) = absurd (omega arith)

    back : (y q : ℕ) → R y q → Flag (R y) (get_or flags y 0) → get_or flags y 0 ≡ 1
    back y q w (up p v g) = g
    back y q w (down n g) = absurd (n q w)
