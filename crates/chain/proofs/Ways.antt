-- The lowest way of a given number of steps: found step by step, from words that tell from where fewer lead to the end. Assumes nothing.
use Prim.Native.Nat.{ℕ, suc, ◌+◌, ◌-◌, ◌≤◌, ◌<◌}
use mathlib.Core.Path.{◌≡◌, refl, sym, ap, subst, ◌∙◌}
use mathlib.Core.Logic.{inl, inr}
use mathlib.Core.Bool.{false}
use mathlib.Core.List.{List, [], ◌∷◌, ◌++◌}
use native.Mathlib.Numerals.{add-one}
use native.Mathlib.Omega.{arith}
use lib.ListN.{length, get_or, set, length-set, length-append, replicate}
use lib.Seq.{set_at, append_snoc}
use Rattle.table.specs.Plus.{Plus}
use Rattle.table.specs.Lex.{Lex}
use Rattle.table.proofs.Lex.{lex_cases, lex_more, lex_end}
use Rattle.table.proofs.Lists.{le_or_lt, fill_more}
use Rattle.table.proofs.Lowest.{told_yes, told_no, told_true, tells_as}
use Rattle.policy.proofs.Closures.{plus_starts, plus_ends}
use Rattle.policy.specs.Steps.Squares.{bit, Marked, Positions, LowestShared, Into}
use Rattle.chain.specs.Chain.{Fewest, ShortestChain}
use Rattle.chain.specs.Steps.Ways.{Way, there, on, Away, Distances}
use Rattle.chain.proofs.Chains.{way_length, walk_way, way_walk, plus_short}

-- the lowest at the first difference of all ways of m steps from p to j
pub record Best (R : ℕ → ℕ → Type 0) (j m p : ℕ) (ps : List ℕ) : Type 0 where
  pub way : Way R j m p ps
  pub lowest : (qs : List ℕ) → Way R j m p qs → ¬ Lex qs ps

-- the first step of a way from p, and the rest
record First (R : ℕ → ℕ → Type 0) (j m p : ℕ) (ps : List ℕ) : Type 0 where
  to : ℕ
  over : List ℕ
  step : R p to
  way : Way R j m to over
  is : ps ≡ p ∷ over

lex_head : (ps qs : List ℕ) → Lex ps qs → get_or ps 0 0 ≤ get_or qs 0 0
lex_head [] qs l = elim l [ ]
lex_head (a ∷ ps) [] l = elim l [ ]
lex_head (a ∷ ps) (b ∷ qs) l = elim (lex_cases l) [ inl k ↦ omega arith | inr k ↦ omega (arith, k.0) ]

module _ {R : ℕ → ℕ → Type 0} {j : ℕ} where
  way_none : {m p : ℕ} {ps : List ℕ} → Way R j m p ps → m ≡ 0 → (p ≡ j) × (ps ≡ j ∷ [])
  way_none there e = (refl, refl)
  way_none (on q r w) e = absurd (omega arith)

  way_some : {m n p : ℕ} {ps : List ℕ} → Way R j m p ps → m ≡ suc n → First R j n p ps
  way_some there e = absurd (omega arith)
  way_some {n = n} (on {m = m} q {ps = ps} r w) e =
      let f : m ≡ n = omega arith in
      record { to = q; over = ps; step = r; way = rw f at w; is = refl }

  way_head : {m p : ℕ} {ps : List ℕ} → Way R j m p ps → get_or ps 0 0 ≡ p
  way_head there = refl
  way_head (on q r w) = refl

  pub away_none : Away R j 0 j
  away_none = record { over = j ∷ []; way = there }

  pub away_zero : {p : ℕ} → Away R j 0 p → p ≡ j
  away_zero a = (way_none a.way refl).0

  pub away_more : {m p q : ℕ} → R p q → Away R j m q → Away R j (suc m) p
  away_more {p = p} {q = q} r a = record { over = p ∷ a.over; way = on q r a.way }

  pub away_split : {m p : ℕ} → Away R j (suc m) p → (q : ℕ) × R p q × Away R j m q
  away_split a = let f = way_some a.way refl in (f.to, f.step, record { over = f.over; way = f.way })

  pub best_none : Best R j 0 j (j ∷ [])
  best_none = record { way = there; lowest = λ qs w l. lex_end (lex_more (omega arith) (rw (way_none w refl).1 at l)) }

  -- the lowest next position from which one step fewer leads to the end
  pub best_more : {m p q : ℕ} {ps : List ℕ} → R p q → ((r : ℕ) → R p r → Away R j m r → q ≤ r) → Best R j m q ps → Best R j (suc m) p (p ∷ ps)
  best_more {m} {p} {q} {ps} r least b = record { way = on q r b.way; lowest = λ qs w l. under (way_some w refl) l }
    where
      under : {qs : List ℕ} → First R j m p qs → ¬ Lex qs (p ∷ ps)
      under f l =
          let k = lex_more (omega arith) (rw f.is at l) in
          let same : f.to ≡ q = omega (arith, least f.to f.step (record { over = f.over; way = f.way }), lex_head f.over ps k, way_head f.way, way_head b.way) in
          b.lowest f.over (subst (λ (x : ℕ). Way R j m x f.over) same f.way) k

  -- it is the chain where no fewer steps lead there
  pub best_fewest : {m i : ℕ} {ps : List ℕ} → 1 ≤ m → ((t : ℕ) → 1 ≤ t → t < m → ¬ Away R j t i) → Best R j m i ps → Fewest R i j ps
  best_fewest {m} {i} {ps} some none b = record {
    walk = way_walk b.way some;
    fewest = λ qs w. go qs (walk_way w);
    lowest = λ qs w e. same qs e (walk_way w);
  }
    where
      size : length ps ≡ suc m
      size = way_length b.way

      go : (qs : List ℕ) → (t : ℕ) × Way R j (suc t) i qs → length ps ≤ length qs
      go qs (t, w) = elim (le_or_lt m (suc t)) [
        | inl h ↦ omega (arith, size, way_length w)
        | inr h ↦ absurd (none (suc t) (omega arith) h (record { over = qs; way = w }))
      ]

      same : (qs : List ℕ) → length qs ≡ length ps → (t : ℕ) × Way R j (suc t) i qs → ¬ Lex qs ps
      same qs e (t, w) = let f : suc t ≡ m = omega (arith, size, way_length w) in b.lowest qs (subst (λ (x : ℕ). Way R j x i qs) f w)

-- both ends of a way are positions
pub plus_from : {n : ℕ} {rows : List ℕ} {i j : ℕ} → Plus (Marked n rows) i j → i < n
plus_from {n} = plus_starts {P = λ k. k < n} (λ a b m. m.from)

pub plus_to : {n : ℕ} {rows : List ℕ} {i j : ℕ} → Plus (Marked n rows) i j → j < n
plus_to {n} = plus_ends {P = λ k. k < n} (λ a b m. m.to)

-- no step leads there from the end alone
pub level_start : {R : ℕ → ℕ → Type 0} {n j w : ℕ} → j < n → n ≤ 16 → Positions 16 (λ p. p ≡ j) w → Positions n (Away R j 0) w
level_start {R} {n} {j} {w} l few t = record {
  inside = λ q e. omega (arith, told_yes (bit w q) (t.tells q (t.inside q e)) e);
  tells = λ p h. tells_as (λ e. subst (λ (x : ℕ). Away R j 0 x) (sym e) away_none) away_zero (bit w p) (t.tells p (omega arith));
}

-- one step more
pub level_more : {n j m : ℕ} {rows : List ℕ} {word r : ℕ} → Positions n (Away (Marked n rows) j m) word → Positions n (Into n rows word) r
    → Positions n (Away (Marked n rows) j (suc m)) r
level_more {n} {j} {m} {rows} {word} {r} level into = record { inside = into.inside; tells = λ p l. tells_as (out p) (back p) (bit r p) (into.tells p l) }
  where
    out : (p : ℕ) → Into n rows word p → Away (Marked n rows) j (suc m) p
    out p s = away_more s.leads (told_yes (bit word s.to) (level.tells s.to s.leads.to) s.is)

    back : (p : ℕ) → Away (Marked n rows) j (suc m) p → Into n rows word p
    back p a = go (away_split a)
      where
        go : (q : ℕ) × Marked n rows p q × Away (Marked n rows) j m q → Into n rows word p
        go (q, s, b) = record { to = q; leads = s; is = told_true (bit word q) (level.tells q s.to) b }

-- the words of fewer than m steps are written, that of m is at hand, and fewer do not lead from i
pub record Grown (R : ℕ → ℕ → Type 0) (n i j m : ℕ) (sets : List ℕ) (word : ℕ) : Type 0 where
  pub some : 1 ≤ m
  pub most : m ≤ n
  pub size : length sets ≡ 16
  pub level : Positions n (Away R j m) word
  pub fewer : (t : ℕ) → 1 ≤ t → t < m → ¬ Away R j t i
  pub words : (t : ℕ) → t < m → Positions n (Away R j t) (get_or sets t 0)

module _ {R : ℕ → ℕ → Type 0} {n i j : ℕ} (sets : List ℕ) {word : ℕ} where
  pub grown_start : {w : ℕ} → length sets ≡ 16 → j < n → Positions n (Away R j 0) w → Positions n (Away R j 1) word → Grown R n i j 1 (set sets 0 w) word
  grown_start {w} s l level more = record {
    some = omega arith;
    most = omega arith;
    size = length-set sets 0 w ∙ s;
    level = more;
    fewer = λ t a b. absurd (omega arith);
    words = fill_more (λ (t v : ℕ). Positions n (Away R j t) v) sets 0 w (omega (arith, s)) (λ t h. absurd (omega arith)) level;
  }

module _ {R : ℕ → ℕ → Type 0} {n i j m : ℕ} {sets : List ℕ} {word : ℕ} (g : Grown R n i j m sets word) (l : i < n) where
  module _ (e : bit word i ≡ false) where
    none : (t : ℕ) → 1 ≤ t → t < m + 1 → ¬ Away R j t i
    none t a b = elim (le_or_lt m t) [
      | inl k ↦ let f : m ≡ t = omega arith in subst (λ (x : ℕ). ¬ Away R j x i) f (told_no (bit word i) (g.level.tells i l) e)
      | inr k ↦ g.fewer t a k
    ]

    -- as many steps as there are positions are enough
    pub grown_within : ((a b : ℕ) → R a b → b < n) → Plus R i j → m < n
    grown_within low p = let s = plus_short low p in elim (le_or_lt n m) [ inl k ↦ absurd (none s.steps s.some (omega (arith, s.few)) s.away) | inr k ↦ k ]

    pub grown_more : {r : ℕ} → n ≤ 16 → m < n → Positions n (Away R j (suc m)) r → Grown R n i j (m + 1) (set sets m word) r
    grown_more {r} few h more = record {
      some = omega arith;
      most = omega arith;
      size = length-set sets m word ∙ g.size;
      level = subst (λ (x : ℕ). Positions n (Away R j x) r) (sym (add-one m)) more;
      fewer = none;
      words = fill_more (λ (t v : ℕ). Positions n (Away R j t) v) sets m word (omega (arith, g.size)) g.words g.level;
    }

-- k positions are written, and p is the next: whatever is best from it on, the whole is best
pub record Walked (R : ℕ → ℕ → Type 0) (n i j m k p : ℕ) (at : List ℕ) : Type 0 where
  pub written : List ℕ
  pub size : length written ≡ k
  pub is : at ≡ written ++ replicate (17 - k) 0
  pub within : k ≤ m
  pub low : p < n
  pub away : Away R j (m - k) p
  pub best : (ps : List ℕ) → Best R j (m - k) p ps → Best R j m i (written ++ ps)

pub walked_start : {R : ℕ → ℕ → Type 0} {n i j m : ℕ} {sets : List ℕ} → i < n → Distances R n i j sets m → Walked R n i j m 0 i (replicate 17 0)
walked_start {R} {n} {i} {j} {m} l d =
    let none : m - 0 ≡ m = omega arith in
    record {
      written = [];
      size = refl;
      is = refl;
      within = omega arith;
      low = l;
      away = subst (λ (x : ℕ). Away R j x i) (sym none) d.leads;
      best = λ ps b. subst (λ (x : ℕ). Best R j x i ps) none b;
    }

-- one place more of 17
set_next : (written : List ℕ) (k p : ℕ) → length written ≡ k → k < 17 → set (written ++ replicate (17 - k) 0) k p ≡ written ++ p ∷ replicate (17 - suc k) 0
set_next written k p e l =
    let f : 17 - k ≡ suc (17 - suc k) = omega arith in
    ap (λ (x : ℕ). set (written ++ replicate x 0) k p) f ∙ set_at written 0 (replicate (17 - suc k) 0) p k e

module _ {n i j m k p : ℕ} {rows sets at : List ℕ} (few : n ≤ 16) (d : Distances (Marked n rows) n i j sets m) (w : Walked (Marked n rows) n i j m k p at) where
  longer_size : length (w.written ++ p ∷ []) ≡ suc k
  longer_size = length-append w.written (p ∷ []) ∙ omega (arith, w.size)

  -- the next position: the lowest to which a step leads and from which one step fewer leads to the end
  module _ (h : k < m) {r : ℕ} (s : LowestShared (get_or rows p 0) (get_or sets (m - (k + 1)) 0) n r) where
    less_by : m - k ≡ suc (m - (k + 1))
    less_by = omega arith

    level : Positions n (Away (Marked n rows) j (m - (k + 1))) (get_or sets (m - (k + 1)) 0)
    level = d.words (m - (k + 1)) (omega arith)

    -- no such position is below it
    least : (q : ℕ) → Marked n rows p q → Away (Marked n rows) j (m - (k + 1)) q → r ≤ q
    least q t a = elim (le_or_lt r q) [
      | inl l ↦ l
      | inr l ↦ absurd (s.free q l (t.is, told_true (bit (get_or sets (m - (k + 1)) 0) q) (level.tells q t.to) a))
    ]

    to : r < n
    to = go (away_split (subst (λ (x : ℕ). Away (Marked n rows) j x p) less_by w.away))
      where
        go : (q : ℕ) × Marked n rows p q × Away (Marked n rows) j (m - (k + 1)) q → r < n
        go (q, t, a) = omega (arith, least q t a, t.to)

    step : Marked n rows p r
    step = record { from = w.low; to = to; is = (s.here to).0 }

    pub walked_more : Walked (Marked n rows) n i j m (k + 1) r (set at k p)
    walked_more = record {
      written = w.written ++ p ∷ [];
      size = longer_size ∙ sym (add-one k);
      is = ap (λ (l : List ℕ). set l k p) w.is ∙ set_next w.written k p w.size (omega (arith, d.most)) ∙ sym (append_snoc w.written p (replicate (17 - suc k) 0)) ∙ same;
      within = omega arith;
      low = to;
      away = told_yes (bit (get_or sets (m - (k + 1)) 0) r) (level.tells r to) (s.here to).1;
      best = λ ps b. subst (λ (l : List ℕ). Best (Marked n rows) j m i l) (sym (append_snoc w.written p ps))
          (w.best (p ∷ ps) (subst (λ (x : ℕ). Best (Marked n rows) j x p (p ∷ ps)) (sym less_by) (best_more step least b)));
    }
      where
        same : (w.written ++ p ∷ []) ++ replicate (17 - suc k) 0 ≡ (w.written ++ p ∷ []) ++ replicate (17 - (k + 1)) 0
        same = rw (add-one k) refl

  pub walked_end : m ≤ k → ShortestChain (Marked n rows) i j (record { length = m + 1; at = set at m p })
  walked_end h = record {
    positions = w.written ++ p ∷ [];
    fewest = best_fewest d.some d.fewer (w.best (p ∷ []) ending);
    is = λ x. record { length = size x; at = places x };
  }
    where
      same : m ≡ k
      same = omega (arith, w.within)

      none : m - k ≡ 0
      none = omega arith

      end : p ≡ j
      end = away_zero (subst (λ (x : ℕ). Away (Marked n rows) j x p) none w.away)

      ending : Best (Marked n rows) j (m - k) p (p ∷ [])
      ending = subst (λ (x : ℕ). Best (Marked n rows) j x p (p ∷ [])) (sym none) (subst (λ (x : ℕ). Best (Marked n rows) j 0 x (x ∷ [])) (sym end) best_none)

      size : m + 1 ≡ length (w.written ++ p ∷ [])
      size = omega (arith, longer_size)

      places : set at m p ≡ (w.written ++ p ∷ []) ++ replicate (17 - length (w.written ++ p ∷ [])) 0
      places = ap (λ (x : ℕ). set at x p) same ∙ ap (λ (l : List ℕ). set l k p) w.is ∙ set_next w.written k p w.size (omega (arith, d.most))
          ∙ sym (append_snoc w.written p (replicate (17 - suc k) 0)) ∙ ap (λ (x : ℕ). (w.written ++ p ∷ []) ++ replicate (17 - x) 0) (sym longer_size)
