-- The taking of types, step by step. Assumes nothing.
use Prim.Native.Nat.{ℕ, suc, ◌+◌, ◌≤◌, ◌<◌}
use mathlib.Core.Path.{◌≡◌, sym, ◌∙◌}
use mathlib.Core.Logic.{◌≢◌, ◌⊎◌, inl, inr}
use mathlib.Core.List.{List}
use native.Mathlib.Nat.{eq-or-lt_of_le}
use native.Mathlib.Decide.{ℕ_discrete}
use native.Mathlib.Omega.{arith}
use lib.ListN.{length, get_or, set, length-set}
use lib.Seq.{get_or-set_same, get_or-set_other}
use Rattle.table.specs.Words.{types, root}
use Rattle.table.specs.Rule.{children_at, Child}
use Rattle.table.specs.Steps.Childed.{Childed}
use Rattle.table.specs.Steps.Listed.{Among}
use Rattle.table.specs.Steps.Counts.{occurs, entries_of, unpassed_sum, Counts, Taking}
use Rattle.table.proofs.Sums.{sum_none, sum_pass, sum_empty, sum_reads, occurs_none, occurs_here, occurs_not, occurs_mono}
use Rattle.table.proofs.Listings.{among, listed_room, listed_keeps, listed_here, listed_more, among_new}
use Rattle.table.proofs.Entries.{child_entries}

-- a type of which nothing is left: all its parents are passed
all_passed : {ws : List ℕ} (taken : List ℕ) (head x y : ℕ) → unpassed_sum (types ws) (entries_of ws x) taken head ≡ 0 → Child ws y x → Among taken head y
all_passed {ws} taken head x y z c = go (among taken head y)
  where
    go : Among taken head y ⊎ (¬ Among taken head y) → Among taken head y
    go (inl a) = a
    go (inr out) = absurd (omega (arith, sum_empty (entries_of ws x) taken (types ws) head y z c.parent out, child_entries c))

-- the start: the root is taken, which is nobody's child
pub take_start : {ws counts taken : List ℕ} → Childed ws → Counts ws counts → get_or counts (root ws) 0 ≡ 0 → types ws ≤ length taken → get_or taken 0 0 ≡ root ws
    → Taking ws 0 0 counts taken 1
take_start {ws} {counts} {taken} g c z h first = record {
  passed = omega arith;
  size = c.size;
  listed = record { room = h; inside = λ k l. rw (is k l) g.tiled.laid.root_inside; once = λ j k l m e. omega arith };
  some = omega arith;
  first = first;
  parents = λ k y l d. absurd (nobody y (root ws) z (rw (is k l) at d));
  others = λ k l d. absurd (d (omega arith));
  left = λ x l. omega (arith, occurs_none (children_at ws (get_or taken 0 0)) x, all x l);
  none = λ k l. rw (is k l) z;
  all = λ x y d e. absurd (nobody y x e d);
}
  where
    is : (k : ℕ) → k < 1 → get_or taken k 0 ≡ root ws
    is k l = let e : k ≡ 0 = omega arith in rw e first

    all : (x : ℕ) → x < types ws → get_or counts x 0 ≡ unpassed_sum (types ws) (entries_of ws x) taken 0
    all x l = c.each x l ∙ sym (sum_none (entries_of ws x) taken (types ws))

    nobody : (y x : ℕ) → get_or counts x 0 ≡ 0 → ¬ Child ws y x
    nobody y x e d = let a = all_passed taken 0 x y (sym (all x d.inside) ∙ e) d in absurd (omega (arith, a.low))

-- the type at head is passed, child by child
module _ {ws counts taken : List ℕ} {head i n : ℕ} (g : Childed ws) (t : Taking ws head i counts taken n) (h : head < n) where
  abbrev kids : List ℕ
  kids = children_at ws (get_or taken head 0)

  next_passed : (x : ℕ) → unpassed_sum (types ws) (entries_of ws x) taken head ≡ unpassed_sum (types ws) (entries_of ws x) taken (head + 1) + occurs kids x (length kids)
  unfolding entries_of
  next_passed x = sum_pass (entries_of ws x) taken (types ws) head (t.listed.inside head h) (λ a. absurd (omega (arith, t.listed.once a.at head (omega (arith, a.low)) h a.is, a.low)))

  -- all its children are
  pub pass_end : i ≡ length kids → Taking ws (head + 1) 0 counts taken n
  pass_end e = record {
    passed = omega arith;
    size = t.size;
    listed = t.listed;
    some = t.some;
    first = t.first;
    parents = t.parents;
    others = t.others;
    left = λ x l. omega (arith, t.left x l, rw (← e) at (next_passed x), occurs_none (children_at ws (get_or taken (head + 1) 0)) x);
    none = t.none;
    all = t.all;
  }

  module _ (l : i < length kids) (c : ℕ) (is : c ≡ get_or kids i 0) where
    child : Child ws (get_or taken head 0) c
    child = record { parent = t.listed.inside head h; inside = rw is (g.inside (get_or taken head 0) (t.listed.inside head h) i l); at = i; within = l; is = sym is }

    pub child_low : c < types ws
    child_low = child.inside

    counted : c < length counts
    counted = omega (arith, child_low, g.tiled.laid.few, t.size)

    pub count_some : 1 ≤ get_or counts c 0
    count_some = omega (arith, t.left c child_low, next_passed c, occurs_here kids c i (sym is), occurs_mono kids c (i + 1) (length kids) (omega arith))

    left_next : (w : ℕ) → w + 1 ≡ get_or counts c 0 → (x : ℕ) → x < types ws → get_or (set counts c w) x 0 + occurs kids x (i + 1) ≡ unpassed_sum (types ws) (entries_of ws x) taken head
    left_next w e x m = go (ℕ_discrete x c)
      where
        go : Dec (x ≡ c) → get_or (set counts c w) x 0 + occurs kids x (i + 1) ≡ unpassed_sum (types ws) (entries_of ws x) taken head
        go (yes q) =
            let now : get_or (set counts c w) x 0 ≡ w = rw q (get_or-set_same counts c w 0 counted) in
            let was : get_or counts x 0 ≡ w + 1 = rw q (sym e) in
            omega (arith, t.left x m, occurs_here kids x i (sym is ∙ sym q))
        go (no d) = omega (arith, get_or-set_other counts c x w 0 d, t.left x m, occurs_not kids x i (λ q. d (sym q ∙ sym is)))

    -- some are left
    pub pass_keep : (w : ℕ) → w + 1 ≡ get_or counts c 0 → w ≢ 0 → Taking ws head (i + 1) (set counts c w) taken n
    pass_keep w e d = record {
      passed = t.passed;
      size = length-set counts c w ∙ t.size;
      listed = t.listed;
      some = t.some;
      first = t.first;
      parents = t.parents;
      others = t.others;
      left = left_next w e;
      none = λ k m. other k m (ℕ_discrete (get_or taken k 0) c);
      all = λ x y a z. go x y a z (ℕ_discrete x c);
    }
      where
        other : (k : ℕ) → k < n → Dec (get_or taken k 0 ≡ c) → get_or (set counts c w) (get_or taken k 0) 0 ≡ 0
        other k m (yes q) = absurd (omega (arith, count_some, rw q at (t.none k m)))
        other k m (no f) = get_or-set_other counts c (get_or taken k 0) w 0 f ∙ t.none k m

        go : (x y : ℕ) → Child ws y x → get_or (set counts c w) x 0 ≡ 0 → Dec (x ≡ c) → Among taken n x
        go x y a z (yes q) = absurd (d (sym (get_or-set_same counts c w 0 counted) ∙ rw q at z))
        go x y a z (no f) = t.all x y a (sym (get_or-set_other counts c x w 0 f) ∙ z)

    -- none is: it is taken
    fresh_child : ¬ Among taken n c
    fresh_child a = absurd (omega (arith, count_some, rw a.is at (t.none a.at a.low)))

    pub room_child : n < types ws
    room_child = listed_room t.listed c child_low fresh_child

    pub pass_take : (w : ℕ) → w + 1 ≡ get_or counts c 0 → w ≡ 0 → Taking ws head (i + 1) (set counts c w) (set taken n c) (n + 1)
    pass_take w e z = record {
      passed = omega (arith, t.passed);
      size = length-set counts c w ∙ t.size;
      listed = listed_more t.listed c child_low fresh_child;
      some = omega arith;
      first = keeps 0 t.some ∙ t.first;
      parents = λ k y m. parents k y (eq-or-lt_of_le m);
      others = λ k m. others k (eq-or-lt_of_le m);
      left = λ x m. rw (keeps head h) (left_next w e x m ∙ sum_reads (entries_of ws x) taken (set taken n c) (types ws) head (λ k j. sym (keeps k (omega arith))));
      none = λ k m. none k (eq-or-lt_of_le m);
      all = λ x y a q. all x y a q (ℕ_discrete x c);
    }
      where
        keeps : (k : ℕ) → k < n → get_or (set taken n c) k 0 ≡ get_or taken k 0
        keeps = listed_keeps t.listed c

        here : (k : ℕ) → suc k ≡ n + 1 → get_or (set taken n c) k 0 ≡ c
        here k e = let q : k ≡ n = omega arith in rw q (listed_here t.listed c child_low fresh_child)

        now : get_or (set counts c w) c 0 ≡ w
        now = get_or-set_same counts c w 0 counted

        gone : unpassed_sum (types ws) (entries_of ws c) taken (head + 1) ≡ 0
        gone = omega (arith, left_next w e c child_low, now, next_passed c, occurs_mono kids c (i + 1) (length kids) (omega arith))

        stays : {k y : ℕ} (m : ℕ) → m ≤ k → m ≤ n → Among taken m y → Among (set taken n c) k y
        stays m j o a = record { at = a.at; low = omega (arith, a.low); is = keeps a.at (omega (arith, a.low)) ∙ a.is }

        parents : (k y : ℕ) → (suc k ≡ n + 1) ⊎ (suc k < n + 1) → Child ws y (get_or (set taken n c) k 0) → Among (set taken n c) k y
        parents k y (inl q) a = stays (head + 1) (omega arith) (omega arith) (all_passed taken (head + 1) c y gone (rw (here k q) at a))
        parents k y (inr m) a = stays k (omega arith) (omega arith) (t.parents k y (omega arith) (rw (keeps k (omega arith)) at a))

        others : (k : ℕ) → (suc k ≡ n + 1) ⊎ (suc k < n + 1) → k ≢ 0 → (y : ℕ) × Child ws y (get_or (set taken n c) k 0)
        others k (inl q) d = (get_or taken head 0, rw (here k q) child)
        others k (inr m) d = rw (keeps k (omega arith)) (t.others k (omega arith) d)

        none : (k : ℕ) → (suc k ≡ n + 1) ⊎ (suc k < n + 1) → get_or (set counts c w) (get_or (set taken n c) k 0) 0 ≡ 0
        none k (inl q) = rw (here k q) (now ∙ z)
        none k (inr m) =
            let low : k < n = omega arith in
            rw (keeps k low) (get_or-set_other counts c (get_or taken k 0) w 0 (λ q. fresh_child (record { at = k; low = low; is = q })) ∙ t.none k low)

        all : (x y : ℕ) → Child ws y x → get_or (set counts c w) x 0 ≡ 0 → Dec (x ≡ c) → Among (set taken n c) (n + 1) x
        all x y a q (yes s) = rw s (among_new t.listed c child_low fresh_child)
        all x y a q (no f) = stays n (omega arith) (omega arith) (t.all x y a (sym (get_or-set_other counts c x w 0 f) ∙ q))
