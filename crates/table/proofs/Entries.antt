-- How often a type stands in the child list: the stretches make it up, and each is counted by itself. Assumes nothing.
use Prim.Native.Nat.{ℕ, zero, suc, ◌+◌, ◌-◌, ◌*◌, ◌≤◌, ◌<◌}
use mathlib.Core.Path.{◌≡◌, refl, sym, ap, ◌∙◌}
use mathlib.Core.List.{List}
use native.Mathlib.Numerals.{add-one}
use native.Mathlib.Nat.{add-sub_cancel_left}
use native.Mathlib.Decide.{ℕ_discrete}
use native.Mathlib.Omega.{arith}
use lib.ListN.{length, get_or, set, take, drop, replicate, length-set, get_or-replicate}
use lib.Seq.{get_or-set_same, get_or-set_other}
use Rattle.table.specs.Sum.{sum_below}
use Rattle.table.specs.Words.{types, entries, count_at, first_at, running}
use Rattle.table.specs.Steps.Reading.{child_list}
use Rattle.table.specs.Rule.{children_at, child_at, Child}
use Rattle.table.proofs.Sum.{Falls, falls_some}
use Rattle.table.proofs.Children.{first_running, fits, count_read, children_all, child_read, entry_read, entries_all}
use Rattle.table.specs.Steps.Childed.{Childed}
use Rattle.table.specs.Steps.Counts.{occurs, entries_of}
use Rattle.table.proofs.Sums.{occurs_none, occurs_here, occurs_not, occurs_some, occurs_among}

-- the places from a on hold what the other list holds from its start
pub occurs_split : (x : ℕ) (list kids : List ℕ) (a m : ℕ) → ((i : ℕ) → i < m → get_or list (a + i) 0 ≡ get_or kids i 0)
    → occurs list x (a + m) ≡ occurs list x a + occurs kids x m
occurs_split x list kids a zero h = let z : a + 0 ≡ a = omega arith in rw z (omega (arith, occurs_none kids x))
occurs_split x list kids a (suc m) h = go (ℕ_discrete (get_or kids m 0) x) (occurs_split x list kids a m (λ i l. h i (omega arith)))
  where
    next : a + suc m ≡ suc (a + m)
    next = omega arith

    same : get_or list (a + m) 0 ≡ get_or kids m 0
    same = h m (omega arith)

    go : Dec (get_or kids m 0 ≡ x) → occurs list x (a + m) ≡ occurs list x a + occurs kids x m → occurs list x (a + suc m) ≡ occurs list x a + occurs kids x (suc m)
    go (yes e) again = rw next (omega (arith, rw (add-one (a + m)) at (occurs_here list x (a + m) (same ∙ e)), rw (add-one m) at (occurs_here kids x m e)))
    go (no d) again = rw next (omega (arith, rw (add-one (a + m)) at (occurs_not list x (a + m) (λ q. d (sym same ∙ q))), rw (add-one m) at (occurs_not kids x m d)))

module _ {ws : List ℕ} (g : Childed ws) where
  module _ (t : ℕ) (l : t < types ws) where
    pub entry_child : (i : ℕ) → i < count_at ws t → get_or (child_list ws) (running ws t + i) 0 ≡ child_at ws t i
    entry_child i h =
        let place : 8 + 3 * types ws + (running ws t + i) ≡ 8 + 3 * types ws + first_at ws t + i = omega (arith, first_running g.tiled t l) in
        entry_read g.tiled (running ws t + i) (omega (arith, fits g.tiled t l, first_running g.tiled t l)) ∙ ap (λ (n : ℕ). get_or ws n 0) place ∙ sym (child_read g.tiled t l i h)

  -- the entries of the first n types
  entries_below : (x n : ℕ) → n ≤ types ws → occurs (child_list ws) x (running ws n) ≡ sum_below (entries_of ws x) n
  unfolding sum_below entries_of
  entries_below x zero h = occurs_none (child_list ws) x
  entries_below x (suc n) h =
      let l : n < types ws = omega arith in
      let split = occurs_split x (child_list ws) (children_at ws n) (running ws n) (count_at ws n) (entry_child n l) in
      let again = entries_below x n (omega arith) in
      rw (children_all g.tiled n l ∙ count_read g.tiled n l) (omega (arith, split, again))

  pub entries_sum : (x : ℕ) → occurs (child_list ws) x (length (child_list ws)) ≡ sum_below (entries_of ws x) (types ws)
  entries_sum x = ap (λ (n : ℕ). occurs (child_list ws) x n) (entries_all g.tiled ∙ sym ((g.tiled.follow (types ws) (omega arith)).total refl)) ∙ entries_below x (types ws) (omega arith)

  -- each of them is a type
  pub entry_inside : (m : ℕ) → m < length (child_list ws) → get_or (child_list ws) m 0 < types ws
  entry_inside m h = go (falls_some (count_at ws) (types ws) m (omega (arith, entries_all g.tiled, (g.tiled.follow (types ws) (omega arith)).total refl)))
    where
      go : (y : ℕ) × (y < types ws) × Falls (count_at ws) m y → get_or (child_list ws) m 0 < types ws
      go (y, k, f) =
          let i : ℕ = m - running ws y in
          let small : i < count_at ws y = omega (arith, f.from, f.until) in
          let place : running ws y + i ≡ m = omega (arith, f.from) in
          let read : get_or (child_list ws) m 0 ≡ child_at ws y i = ap (λ (n : ℕ). get_or (child_list ws) n 0) (sym place) ∙ entry_child y k i small in
          omega (arith, g.inside y k i (omega (arith, children_all g.tiled y k, count_read g.tiled y k)))

-- the stretch that is read
pub read_list : (ws : List ℕ) {list : List ℕ} {e n a : ℕ} → e ≡ types ws → n ≡ entries ws → a ≡ 8 + 3 * e → list ≡ take (a + n - a) (drop a ws) → list ≡ child_list ws
read_list ws te ne ae k = k ∙ rw (add-sub_cancel_left, ae, te, ne)

-- the first i entries are counted
pub record CountedSoFar (list : List ℕ) (i : ℕ) (counts : List ℕ) : Type 0 where
  pub within : i ≤ length list
  pub size : length counts ≡ 256
  pub each : (x : ℕ) → x < 256 → get_or counts x 0 ≡ occurs list x i

pub count_start : (list : List ℕ) → CountedSoFar list 0 (replicate 256 0)
count_start list = record { within = omega arith; size = refl; each = λ x l. get_or-replicate {A = ℕ} 256 x 0 0 l ∙ sym (occurs_none list x) }

pub count_more : {list counts : List ℕ} {i : ℕ} → CountedSoFar list i counts → i < length list → (c : ℕ) → c ≡ get_or list i 0 → c < 256
    → CountedSoFar list (i + 1) (set counts c (get_or counts c 0 + 1))
count_more {list} {counts} {i} s l c e h = record {
  within = omega arith;
  size = length-set counts c (get_or counts c 0 + 1) ∙ s.size;
  each = λ x m. go x m (ℕ_discrete x c);
}
  where
    go : (x : ℕ) → x < 256 → Dec (x ≡ c) → get_or (set counts c (get_or counts c 0 + 1)) x 0 ≡ occurs list x (i + 1)
    go x m (yes q) =
        let now : get_or (set counts c (get_or counts c 0 + 1)) x 0 ≡ get_or counts x 0 + 1 = rw q (get_or-set_same counts c (get_or counts c 0 + 1) 0 (omega (arith, s.size))) in
        omega (arith, s.each x m, occurs_here list x i (sym e ∙ sym q))
    go x m (no d) = omega (arith, get_or-set_other counts c x (get_or counts c 0 + 1) 0 d, s.each x m, occurs_not list x i (λ q. d (sym q ∙ sym e)))

-- to stand among the children is to be a child
pub entries_child : {ws : List ℕ} (x y : ℕ) → x < types ws → y < types ws → 1 ≤ entries_of ws x y → Child ws y x
unfolding entries_of
entries_child {ws} x y l m h =
    let a = occurs_some (children_at ws y) x (length (children_at ws y)) h in
    record { parent = m; inside = l; at = a.at; within = a.low; is = a.is }

pub child_entries : {ws : List ℕ} {x y : ℕ} → Child ws y x → 1 ≤ entries_of ws x y
unfolding entries_of
child_entries {ws} {x} {y} c = occurs_among (children_at ws y) x (length (children_at ws y)) (record { at = c.at; low = c.within; is = c.is })
