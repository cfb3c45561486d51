-- What one pass over the types has shown so far, with the stamps and the counts that it gave to their children. Assumes nothing.
use Prim.Native.Nat.{ℕ, zero, suc, ◌+◌, ◌-◌, ◌*◌, ◌≤◌, ◌<◌}
use mathlib.Core.Path.{◌≡◌, refl, sym, ap, ◌∙◌}
use mathlib.Core.Logic.{◌≢◌}
use mathlib.Core.List.{List, []}
use native.Mathlib.Nat.{add-sub_cancel_left}
use native.Mathlib.Decide.{ℕ_discrete}
use native.Mathlib.Omega.{arith}
use borrow.Author.Count.{below_more}
use lib.ListN.{length, get_or, set, take, drop, replicate, get_or-replicate, length-set}
use lib.Seq.{get_or-set_same, get_or-set_other}
use Rattle.table.specs.Sum.{sum_below}
use Rattle.table.specs.Words.{types, kind_at, count_at, first_at, running}
use Rattle.table.specs.Steps.Reading.{Within, Widened}
use Rattle.table.specs.Rule.{rule_of, rule_at, children_at}
use Rattle.table.specs.Privilege.{gap_of, privileges_of, privileges_at, first_privilege, privileges}
use Rattle.table.specs.Check.{RightCount, Inside, Differ}
use Rattle.table.specs.Steps.Counts.{occurs, entries_of}
use Rattle.table.specs.Steps.Accept.{Countable, Stamped, Totals, TypesPass}
use Rattle.table.specs.declared.rule.Rule.{Rule}
use Rattle.table.proofs.Children.{children_right}
use Rattle.table.proofs.Sum.{sum_more}
use Rattle.table.proofs.Sums.{occurs_none, occurs_here, occurs_not, occurs_few}
use Rattle.table.proofs.Privileges.{first_start, first_next}

-- the first n children of type t have its stamp, and each is counted
pub record StampedSoFar (e t : ℕ) (kids : List ℕ) (n : ℕ) (before stamps counts : List ℕ) : Type 0 where
  pub within : n ≤ length kids
  pub stamps_size : length stamps ≡ 256
  pub counts_size : length counts ≡ 256
  pub inside : (j : ℕ) → j < n → get_or kids j 0 < e
  pub differ : (j : ℕ) → j < n → (i : ℕ) → i < j → get_or kids i 0 ≢ get_or kids j 0
  pub marked : (j : ℕ) → j < n → get_or stamps (get_or kids j 0) 0 ≡ t
  pub small : (x : ℕ) → x < 256 → get_or before x 0 ≤ 16 * t
  pub each : (x : ℕ) → x < 256 → get_or counts x 0 ≡ get_or before x 0 + occurs kids x n

pub stamp_start : {e t : ℕ} {kids stamps counts : List ℕ} → Countable t stamps counts → StampedSoFar e t kids 0 counts stamps counts
stamp_start {kids = kids} h = record {
  within = omega arith;
  stamps_size = h.stamps_size;
  counts_size = h.counts_size;
  inside = λ j l. absurd (omega arith);
  differ = λ j l. absurd (omega arith);
  marked = λ j l. absurd (omega arith);
  small = h.small;
  each = λ x l. omega (arith, occurs_none kids x);
}

module _ {e t n : ℕ} {kids before stamps counts : List ℕ} (s : StampedSoFar e t kids n before stamps counts) where
  -- a count has room
  pub stamp_room : (x : ℕ) → x < 256 → get_or counts x 0 ≤ 16 * t + n
  stamp_room x l = omega (arith, s.each x l, s.small x l, occurs_few kids x n)

  -- the next child has another stamp
  pub stamp_more : n < length kids → e ≤ 256 → (c : ℕ) → c ≡ get_or kids n 0 → c < e → get_or stamps c 0 ≢ t
      → StampedSoFar e t kids (n + 1) before (set stamps c t) (set counts c (get_or counts c 0 + 1))
  stamp_more l few c is low new = record {
    within = omega arith;
    stamps_size = length-set stamps c t ∙ s.stamps_size;
    counts_size = length-set counts c (get_or counts c 0 + 1) ∙ s.counts_size;
    inside = below_more _ _ s.inside (omega arith);
    differ = below_more _ _ s.differ (λ i h q. new (ap (λ (x : ℕ). get_or stamps x 0) (is ∙ sym q) ∙ s.marked i h));
    marked = below_more _ _ (λ j h. kept j h (ℕ_discrete (get_or kids j 0) c)) (ap (λ (x : ℕ). get_or (set stamps c t) x 0) (sym is) ∙ here);
    small = s.small;
    each = λ x m. go x m (ℕ_discrete x c);
  }
    where
      here : get_or (set stamps c t) c 0 ≡ t
      here = get_or-set_same stamps c t 0 (omega (arith, s.stamps_size))

      kept : (j : ℕ) → j < n → Dec (get_or kids j 0 ≡ c) → get_or (set stamps c t) (get_or kids j 0) 0 ≡ t
      kept j h (yes q) = ap (λ (x : ℕ). get_or (set stamps c t) x 0) q ∙ here
      kept j h (no d) = get_or-set_other stamps c (get_or kids j 0) t 0 d ∙ s.marked j h

      go : (x : ℕ) → x < 256 → Dec (x ≡ c) → get_or (set counts c (get_or counts c 0 + 1)) x 0 ≡ get_or before x 0 + occurs kids x (n + 1)
      go x m (yes q) =
          let now : get_or (set counts c (get_or counts c 0 + 1)) x 0 ≡ get_or counts x 0 + 1 = rw q (get_or-set_same counts c (get_or counts c 0 + 1) 0 (omega (arith, s.counts_size))) in
          omega (arith, s.each x m, occurs_here kids x n (sym is ∙ sym q))
      go x m (no d) = omega (arith, get_or-set_other counts c x (get_or counts c 0 + 1) 0 d, s.each x m, occurs_not kids x n (λ q. d (sym q ∙ sym is)))

  pub stamp_all : length kids ≤ n → length kids ≤ 16 → Stamped e t kids before stamps counts
  stamp_all l few = record {
    inside = λ i h. s.inside i (omega arith);
    differ = λ i j h k. s.differ j (omega arith) i h;
    countable = record { stamps_size = s.stamps_size; counts_size = s.counts_size; small = λ x h. omega (arith, stamp_room x h, s.within) };
    each = λ x h. let q : n ≡ length kids = omega (arith, s.within) in rw q at (s.each x h);
  }

-- type t passes checks 3 to 7
pub record Sound (ws : List ℕ) (t : ℕ) : Type 0 where
  pub kind : kind_at ws t ≤ 4
  pub count : RightCount (kind_at ws t) (count_at ws t)
  pub first : first_at ws t ≡ running ws t
  pub inside : Inside (types ws) (children_at ws t)
  pub differ : Differ (children_at ws t)

-- the first n types do; index and sum are how many children and privileges they have
pub record TypesSoFar (ws : List ℕ) (n index sum : ℕ) (stamps counts : List ℕ) : Type 0 where
  pub within : n ≤ types ws
  pub sound : (t : ℕ) → t < n → Sound ws t
  pub index_is : index ≡ running ws n
  pub index_small : index < 131072
  pub sum_is : sum ≡ first_privilege ws n
  pub sum_small : sum ≤ 4294967296 * n
  pub countable : Countable n stamps counts
  pub counted : (x : ℕ) → x < 256 → get_or counts x 0 ≡ sum_below (entries_of ws x) n

pub types_start : (ws : List ℕ) {stamps : List ℕ} → length stamps ≡ 256 → TypesSoFar ws 0 0 0 stamps (replicate 256 0)
unfolding sum_below
types_start ws size = record {
  within = omega arith;
  sound = λ t l. absurd (omega arith);
  index_is = refl;
  index_small = omega arith;
  sum_is = sym (first_start ws);
  sum_small = omega arith;
  countable = record { stamps_size = size; counts_size = refl; small = λ x l. omega (arith, get_or-replicate {A = ℕ} 256 x 0 0 l) };
  counted = λ x l. get_or-replicate {A = ℕ} 256 x 0 0 l;
}

-- the record of type n as it was read, right so far
pub record Read (ws : List ℕ) (n kind first count : ℕ) : Type 0 where
  pub kind_is : Widened (kind_at ws n) kind
  pub first_is : Widened (first_at ws n) first
  pub count_is : Widened (count_at ws n) count
  pub low : kind ≤ 4
  pub right : RightCount kind count

module _ {ws : List ℕ} {n kind first count : ℕ} (r : Read ws n kind first count) where
  -- the stretch of its children, as it was read
  module _ {kids : List ℕ} (start stop : ℕ) (until : stop ≡ start + count) (k : kids ≡ take (stop - start) (drop start ws)) where
    pub read_children : {e : ℕ} → e ≡ types ws → start ≡ 8 + 3 * e + first → kids ≡ children_at ws n
    read_children te se =
        let same = children_right ws n (rw (← r.kind_is.is) r.low) (rw (← r.kind_is.is, ← r.count_is.is) r.right) in
        k ∙ rw (until, add-sub_cancel_left, se, te, r.first_is.is, r.count_is.is) (sym same)

  pub read_privileges : {rule : Rule} {own : ℕ} → rule ≡ rule_of kind first count → Within 4294967296 (privileges_of (gap_of ws) rule) own
      → Within 4294967296 (privileges_at ws n) own
  unfolding privileges_at rule_at
  read_privileges e p = rw (e, r.kind_is.is, r.first_is.is, r.count_is.is) at p

-- empty and text have no children, and 0 privileges and 1
leaf_right : (kind : ℕ) → kind ≤ 1 → RightCount kind 0
leaf_right kind low = record {
  empty = λ e. refl;
  text = λ e. refl;
  sequence = λ e. absurd (omega arith);
  choice = λ e. absurd (omega arith);
  star = λ e. absurd (omega arith);
}

leaf_privileges : (gap kind first : ℕ) → kind ≤ 1 → Within 4294967296 (privileges_of gap (rule_of kind first 0)) kind
unfolding rule_of
leaf_privileges gap zero first low = record { is = refl; small = omega arith }
leaf_privileges gap (suc zero) first low = record { is = refl; small = omega arith }
leaf_privileges gap (suc (suc k)) first low = absurd (omega arith)

module _ {ws stamps counts : List ℕ} {n index sum : ℕ} (s : TypesSoFar ws n index sum stamps counts) where
  pub types_more : {kind count own e : ℕ} {kids stamps-after counts-after : List ℕ} → Read ws n kind index count → e ≡ types ws → n < e → kids ≡ children_at ws n
      → Stamped e n kids counts stamps-after counts-after → Within 4294967296 (privileges_at ws n) own
      → TypesSoFar ws (n + 1) (index + count) (sum + own) stamps-after counts-after
  unfolding entries_of
  types_more {kind} {count} {own} {e} {kids} {stamps-after} {counts-after} r te l k st p = record {
    within = omega arith;
    sound = below_more _ _ s.sound (record {
      kind = rw (← r.kind_is.is) r.low;
      count = rw (← r.kind_is.is, ← r.count_is.is) r.right;
      first = sym r.first_is.is ∙ s.index_is;
      inside = g.inside;
      differ = g.differ;
    });
    index_is = rw (s.index_is, r.count_is.is) (sym (sum_more (count_at ws) n));
    index_small = omega (arith, r.first_is.small, r.count_is.small);
    sum_is = rw (s.sum_is, p.is) (sym (first_next ws n));
    sum_small = omega (arith, s.sum_small, p.small);
    countable = g.countable;
    counted = λ x h. g.each x h ∙ ap (λ (m : ℕ). m + entries_of ws x n) (s.counted x h) ∙ sym (sum_more (entries_of ws x) n);
  }
    where
      g : Stamped (types ws) n (children_at ws n) counts stamps-after counts-after
      g = rw (te, k) at st

  -- a childless type
  pub types_leaf : {kind e : ℕ} → Widened (kind_at ws n) kind → Widened (first_at ws n) index → Widened (count_at ws n) 0 → kind ≤ 1 → e ≡ types ws → n < e
      → TypesSoFar ws (n + 1) index (sum + kind) stamps counts
  types_leaf {kind} {e} ki fi ci low te l =
      let r : Read ws n kind index 0 = record { kind_is = ki; first_is = fi; count_is = ci; low = omega arith; right = leaf_right kind low } in
      let nothing : 8 + 3 * e + index - (8 + 3 * e + index) ≡ 0 = omega arith in
      let none-taken : [] ≡ take (8 + 3 * e + index - (8 + 3 * e + index)) (drop (8 + 3 * e + index) ws) = rw nothing in
      let none : [] ≡ children_at ws n = read_children r (8 + 3 * e + index) (8 + 3 * e + index) (omega arith) none-taken te refl in
      let same : index + 0 ≡ index = omega arith in
      let st : Stamped e n [] counts stamps counts = record {
        inside = λ i h. absurd (omega arith);
        differ = λ i j h k. absurd (omega arith);
        countable = record { stamps_size = s.countable.stamps_size; counts_size = s.countable.counts_size; small = λ x h. omega (arith, s.countable.small x h) };
        each = λ x h. omega (arith, occurs_none [] x);
      }
      in
      let own : Within 4294967296 (privileges_of (gap_of ws) (rule_of kind index 0)) kind = leaf_privileges (gap_of ws) kind index low in
      rw same at (types_more r te l none st (read_privileges r refl own))

  pub types_all : types ws ≤ n → types ws ≤ 256 → Totals ws index sum → TypesPass ws counts
  unfolding privileges
  types_all l low totals = record {
    kinds = λ t h. (at t h).kind;
    counts_right = λ t h. (at t h).count;
    stretches = λ t h. record { first = λ k. (at t k).first; total = λ e. rw e (sym all ∙ totals.listed) };
    bounds = λ t h. (at t h).inside;
    twice = λ t h. (at t h).differ;
    total = λ p h. record { few = omega (arith, whole, totals.few); stated = totals.stated ∙ whole };
    counted = record { size = s.countable.counts_size; each = λ x h. rw end at (s.counted x (omega arith)) };
  }
    where
      end : n ≡ types ws
      end = omega (arith, s.within)

      at : (t : ℕ) → t < types ws → Sound ws t
      at t h = s.sound t (omega arith)

      all : index ≡ running ws (types ws)
      all = rw (← end) s.index_is

      whole : sum ≡ first_privilege ws (types ws)
      whole = rw (← end) s.sum_is
