-- The order is filled from its last place to its first: the start, and the loop over the children of the type at a place. Assumes nothing.
use Prim.Native.Nat.{ℕ, ◌+◌, ◌-◌, ◌≤◌, ◌<◌}
use mathlib.Core.Path.{◌≡◌, sym, ap, ◌∙◌}
use mathlib.Core.Logic.{◌≢◌}
use mathlib.Core.List.{List}
use native.Mathlib.Omega.{arith}
use lib.ListN.{length, get_or, set, length-set}
use lib.Seq.{get_or-set_same}
use Rattle.table.specs.Words.{types, root}
use Rattle.table.specs.Rule.{children_at}
use Rattle.table.specs.Steps.Childed.{Childed}
use Rattle.table.specs.Steps.Counts.{Counts, turned, Taking, Filling}
use Rattle.table.proofs.Listings.{listed_keeps, turned_length, turned_at, turned_set}
use Rattle.table.proofs.Takings.{take_start, count_some, pass_end, pass_keep, pass_take, room_child}

-- the root stands at the last place
pub filling_start : {ws counts : List ℕ} (order : List ℕ) {place r : ℕ} → Childed ws → Counts ws counts → length order ≡ 256 → r ≡ root ws → get_or counts r 0 ≡ 0 → place ≡ types ws
    → Filling ws place (place - 1) counts (set order (place - 1) r)
filling_start {ws} {counts} order {place} {r} g c s is z e = record {
  size = length-set order (place - 1) r ∙ s;
  low = omega arith;
  few = omega arith;
  taking = rw (none, one) (take_start g c (rw is at z) (omega (arith, turned_length (set order (place - 1) r) (types ws))) first);
}
  where
    none : types ws - place ≡ 0
    none = omega arith

    one : types ws - (place - 1) ≡ 1
    one = omega (arith, g.tiled.laid.some)

    first : get_or (turned (set order (place - 1) r) (types ws)) 0 0 ≡ root ws
    first =
        let last : types ws - 1 - 0 ≡ place - 1 = omega arith in
        let room : place - 1 < length order = omega (arith, g.tiled.laid.some, g.tiled.laid.few) in
        turned_at (set order (place - 1) r) (types ws) 0 g.tiled.laid.some ∙ rw last (get_or-set_same order (place - 1) r 0 room ∙ is)

-- the first i of the kids of the type at the place are passed
pub record Passing (ws : List ℕ) (place : ℕ) (kids : List ℕ) (i : ℕ) (counts order : List ℕ) (free : ℕ) : Type 0 where
  pub size : length order ≡ 256
  pub low : free ≤ place
  pub few : place < types ws
  pub within : i ≤ length kids
  pub kids_are : kids ≡ children_at ws (get_or (turned order (types ws)) (types ws - (place + 1)) 0)
  pub taking : Taking ws (types ws - (place + 1)) i counts (turned order (types ws)) (types ws - free)

module _ {ws counts order : List ℕ} {place free : ℕ} (f : Filling ws (place + 1) free counts order) (l : free ≤ place) where
  type_at : get_or (turned order (types ws)) (types ws - (place + 1)) 0 ≡ get_or order place 0
  type_at =
      let back : types ws - 1 - (types ws - (place + 1)) ≡ place = omega (arith, f.few) in
      turned_at order (types ws) (types ws - (place + 1)) (omega (arith, f.few)) ∙ ap (λ (k : ℕ). get_or order k 0) back

  pub type_low : get_or order place 0 < types ws
  type_low = rw type_at at (f.taking.listed.inside (types ws - (place + 1)) (omega (arith, f.few)))

  pub passing_start : {kids : List ℕ} → kids ≡ children_at ws (get_or order place 0) → Passing ws place kids 0 counts order free
  passing_start k = record {
    size = f.size;
    low = l;
    few = omega (arith, f.few);
    within = omega arith;
    kids_are = k ∙ ap (λ (x : ℕ). children_at ws x) (sym type_at);
    taking = f.taking;
  }

module _ {ws kids counts order : List ℕ} {place i free : ℕ} (g : Childed ws) (p : Passing ws place kids i counts order free) where
  there : types ws - (place + 1) < types ws - free
  there = omega (arith, p.low, p.few)

  pub passing_end : length kids ≤ i → Filling ws place free counts order
  passing_end l =
      let all : i ≡ length kids = omega (arith, p.within) in
      let next : types ws - place ≡ types ws - (place + 1) + 1 = omega (arith, p.few) in
      record { size = p.size; low = p.low; few = omega (arith, p.few); taking = rw next (pass_end g p.taking there (all ∙ ap length p.kids_are)) }

  module _ {c : ℕ} (l : i < length kids) (is : c ≡ get_or kids i 0) where
    kid : i < length (children_at ws (get_or (turned order (types ws)) (types ws - (place + 1)) 0))
    kid = rw (← p.kids_are) l

    kid_is : c ≡ get_or (children_at ws (get_or (turned order (types ws)) (types ws - (place + 1)) 0)) i 0
    kid_is = is ∙ ap (λ (l : List ℕ). get_or l i 0) p.kids_are

    pub passing_some : 1 ≤ get_or counts c 0
    passing_some = count_some g p.taking there kid c kid_is

    pub passing_room : 0 < free
    passing_room = omega (arith, room_child g p.taking there kid c kid_is)

    pub passing_keep : {w : ℕ} → w + 1 ≡ get_or counts c 0 → w ≢ 0 → Passing ws place kids (i + 1) (set counts c w) order free
    passing_keep {w} e d = record {
      size = p.size;
      low = p.low;
      few = p.few;
      within = omega arith;
      kids_are = p.kids_are;
      taking = pass_keep g p.taking there kid c kid_is w e d;
    }

    pub passing_take : {w : ℕ} → w + 1 ≡ get_or counts c 0 → w ≡ 0 → Passing ws place kids (i + 1) (set counts c w) (set order (free - 1) c) (free - 1)
    passing_take {w} e z = record {
      size = length-set order (free - 1) c ∙ p.size;
      low = omega (arith, p.low);
      few = p.few;
      within = omega arith;
      kids_are = rw turn (p.kids_are ∙ ap (λ (x : ℕ). children_at ws x) (sym (listed_keeps p.taking.listed c (types ws - (place + 1)) there)));
      taking = rw (turn, next) (pass_take g p.taking there kid c kid_is w e z);
    }
      where
        next : types ws - (free - 1) ≡ types ws - free + 1
        next = omega (arith, passing_room, p.low, p.few)

        turn : turned (set order (free - 1) c) (types ws) ≡ set (turned order (types ws)) (types ws - free) c
        turn =
            let at : types ws - 1 - (free - 1) ≡ types ws - free = omega (arith, passing_room) in
            turned_set order (types ws) (free - 1) c (omega (arith, p.low, p.few)) (omega (arith, p.size, g.tiled.laid.few))
            ∙ ap (λ (k : ℕ). set (turned order (types ws)) k c) at
