-- The chain is one, has at most one position more than there are, and is there exactly where the end is reached. Assumes nothing.
use Prim.Native.Nat.{ℕ, zero, suc, ◌+◌, ◌-◌, ◌≤◌, ◌<◌}
use mathlib.Core.Path.{◌≡◌, refl, sym, ap, subst, ◌∙◌}
use mathlib.Core.Logic.{◌≢◌, ◌⊎◌, inl, inr}
use mathlib.Core.List.{List, [], ◌∷◌}
use native.Mathlib.Omega.{arith}
use lib.ListN.{length, get_or, take, length-append, length-replicate, replicate}
use lib.Seq.{take-append_seam}
use Rattle.table.specs.Plus.{Plus, last, next}
use Rattle.table.specs.Lex.{Lex}
use Rattle.table.proofs.Lex.{lex_tri}
use Rattle.table.proofs.Test.{settle, is_equal}
use Rattle.table.proofs.Walks.{In, below, below_length, below_in, without, Over, straight, over, cut, plus_over}
use Rattle.policy.proofs.Closures.{plus_ends}
use Rattle.chain.specs.Chain.{Walk, Fewest, chain_of, ShortestChain}
use Rattle.chain.specs.Chain as chain
use Rattle.chain.specs.Steps.Ways.{Way, there, on, Away}
use Rattle.chain.specs.declared.Chain.{Chain}

-- one or more steps lead from i to j, at most so many
pub record Short (R : ℕ → ℕ → Type 0) (j most i : ℕ) : Type 0 where
  pub steps : ℕ
  pub some : 1 ≤ steps
  pub few : steps ≤ most
  pub away : Away R j steps i

-- 17 places hold a chain of so many positions, and these are the first of them
pub chain_places : (ps : List ℕ) → length ps ≤ 17 → length (chain_of ps).at ≡ 17
chain_places ps h = length-append ps (replicate (17 - length ps) 0) ∙ omega (arith, length-replicate {A = ℕ} (17 - length ps) 0)

pub chain_first : (ps : List ℕ) → take (chain_of ps).length (chain_of ps).at ≡ ps
chain_first ps = take-append_seam ps (replicate (17 - length ps) 0)

module _ {R : ℕ → ℕ → Type 0} where
  -- there is at most one chain
  pub fewest_one : {i j : ℕ} {ps qs : List ℕ} → Fewest R i j ps → Fewest R i j qs → ps ≡ qs
  fewest_one {ps = ps} {qs = qs} f g = go (lex_tri ps qs same)
    where
      same : length ps ≡ length qs
      same = omega (arith, f.fewest qs g.walk, g.fewest ps f.walk)

      go : Lex ps qs ⊎ (ps ≡ qs) ⊎ Lex qs ps → ps ≡ qs
      go (inl l) = absurd (g.lowest ps f.walk same l)
      go (inr (inl e)) = e
      go (inr (inr l)) = absurd (f.lowest qs g.walk (sym same) l)

  pub chain_one : {i j : ℕ} {c d : Chain} → ShortestChain R i j c → ShortestChain R i j d → c ≡ d
  chain_one s t = s.is ∙ ap chain_of (fewest_one s.fewest t.fewest) ∙ sym t.is

  -- one or more steps are a walk, and a walk is one or more steps
  pub walk_plus : {i j : ℕ} {ps : List ℕ} → Walk R i j ps → Plus R i j
  walk_plus (chain.last r) = last r
  walk_plus (chain.next k r w) = next k r (walk_plus w)

  pub plus_walk : {i j : ℕ} → Plus R i j → (ps : List ℕ) × Walk R i j ps
  plus_walk {i} {j} (last r) = (i ∷ j ∷ [], chain.last r)
  plus_walk {i} (next k r p) = let w = plus_walk p in (i ∷ w.0, chain.next k r w.1)

  -- a walk begins at i, ends at j, and a step leads from each of its positions to the next
  walk_long : {i j : ℕ} {ps : List ℕ} → Walk R i j ps → 2 ≤ length ps
  walk_long (chain.last r) = omega arith
  walk_long (chain.next k r w) = omega (arith, walk_long w)

  pub walk_first : {i j : ℕ} {ps : List ℕ} → Walk R i j ps → get_or ps 0 0 ≡ i
  walk_first (chain.last r) = refl
  walk_first (chain.next k r w) = refl

  pub walk_last : {i j : ℕ} {ps : List ℕ} → Walk R i j ps → get_or ps (length ps - 1) 0 ≡ j
  walk_last (chain.last r) = refl
  walk_last {i} (chain.next k {ps = ps} r w) =
      let e : suc (length ps) - 1 ≡ suc (length ps - 1) = omega (arith, walk_long w) in
      ap (λ (x : ℕ). get_or (i ∷ ps) x 0) e ∙ walk_last w

  pub walk_step : {i j : ℕ} {ps : List ℕ} → Walk R i j ps → (k : ℕ) → suc k < length ps → R (get_or ps k 0) (get_or ps (suc k) 0)
  walk_step (chain.last r) zero l = r
  walk_step (chain.last r) (suc k) l = absurd (omega arith)
  walk_step {i} (chain.next k r w) zero l = subst (λ (x : ℕ). R i x) (sym (walk_first w)) r
  walk_step (chain.next k r w) (suc m) l = walk_step w m (omega arith)

  -- walks by the number of their steps
  pub way_length : {j m p : ℕ} {ps : List ℕ} → Way R j m p ps → length ps ≡ suc m
  way_length there = refl
  way_length (on q r w) = ap suc (way_length w)

  pub walk_way : {i j : ℕ} {ps : List ℕ} → Walk R i j ps → (m : ℕ) × Way R j (suc m) i ps
  walk_way {j = j} (chain.last r) = (0, on j r there)
  walk_way (chain.next k r w) = let v = walk_way w in (suc v.0, on k r v.1)

  pub way_walk : {j m i : ℕ} {ps : List ℕ} → Way R j m i ps → 1 ≤ m → Walk R i j ps
  way_walk there h = absurd (omega arith)
  way_walk (on q r there) h = chain.last r
  way_walk (on q r (on k s w)) h = chain.next q r (way_walk (on k s w) (omega arith))

  -- the way stops where it first comes to its end
  stop : {s t : List ℕ} {i j : ℕ} → ((k : ℕ) → In k s → k ≢ j → In k t) → Over R s i j → Over R t i j
  stop keep (straight r) = straight r
  stop {s} {t} keep (over {i = i} {j = j} k m r o) = go (settle (is_equal k j)) (stop keep o)
    where
      go : (k ≡ j) ⊎ (k ≢ j) → Over R t k j → Over R t i j
      go (inl e) p = straight (rw e at r)
      go (inr d) p = over k (keep k m d) r p

  one_short : {i j most : ℕ} → R i j → 1 ≤ most → Short R j most i
  one_short {i} {j} r h = record { steps = 1; some = omega arith; few = h; away = record { over = i ∷ j ∷ []; way = on j r there } }

  more_short : {i k j most : ℕ} → R i k → Short R j most k → Short R j (suc most) i
  more_short {i} {k} r v = record { steps = suc v.steps; some = omega arith; few = omega (arith, v.few); away = record { over = i ∷ v.away.over; way = on k r v.away.way } }

  -- each position is needed at most once
  over_short : (m : ℕ) (s : List ℕ) (i j : ℕ) → length s ≤ m → Over R s i j → Short R j (suc m) i
  over_short zero s i j l (straight r) = one_short r (omega arith)
  over_short zero s i j l (over k h r o) = absurd (omega (arith, (without k s h).1))
  over_short (suc m) s i j l (straight r) = one_short r (omega arith)
  over_short (suc m) s i j l (over k h r o) =
      let w = without k s h in
      let p : Over R w.0 k j = elim (cut {t = w.0} k w.2 o) [ inl q ↦ q | inr q ↦ q ] in
      more_short r (over_short m w.0 k j (omega (arith, w.1)) p)

  module _ {n : ℕ} (low : (a b : ℕ) → R a b → b < n) where
    plus_low : {i j : ℕ} → Plus R i j → j < n
    plus_low = plus_ends {P = λ k. k < n} low

    -- where all steps end below n, what is reached is reached by at most n steps
    pub plus_short : {i j : ℕ} → Plus R i j → Short R j n i
    plus_short {i} {j} p =
        let w = without j (below n) (below_in n j (plus_low p)) in
        go (over_short (n - 1) w.0 i j (omega (arith, w.1, below_length n)) (stop w.2 (plus_over low p)))
      where
        go : Short R j (suc (n - 1)) i → Short R j n i
        go v = record { steps = v.steps; some = v.some; few = omega (arith, v.few, plus_low p); away = v.away }

    -- so the chain has at most n + 1 positions
    pub fewest_short : {i j : ℕ} {ps : List ℕ} → Fewest R i j ps → length ps ≤ n + 1
    fewest_short f =
        let s = plus_short (walk_plus f.walk) in
        omega (arith, f.fewest s.away.over (way_walk s.away.way s.some), way_length s.away.way, s.few)

    -- all of them below n
    pub walk_low : {i j : ℕ} {ps : List ℕ} → i < n → Walk R i j ps → (k : ℕ) → k < length ps → get_or ps k 0 < n
    walk_low h (chain.last r) zero l = h
    walk_low {i} {j} h (chain.last r) (suc zero) l = low i j r
    walk_low h (chain.last r) (suc (suc k)) l = absurd (omega arith)
    walk_low h (chain.next k r w) zero l = h
    walk_low {i} h (chain.next k r w) (suc m) l = walk_low (low i k r) w m (omega arith)

-- walks of the same steps by another name
module _ {R Q : ℕ → ℕ → Type 0} where
  pub walk_as : ((a b : ℕ) → R a b → Q a b) → {i j : ℕ} {ps : List ℕ} → Walk R i j ps → Walk Q i j ps
  walk_as f {i} {j} (chain.last r) = chain.last (f i j r)
  walk_as f {i} (chain.next k r w) = chain.next k (f i k r) (walk_as f w)

module _ {R Q : ℕ → ℕ → Type 0} (f : (a b : ℕ) → R a b → Q a b) (g : (a b : ℕ) → Q a b → R a b) where
  fewest_as : {i j : ℕ} {ps : List ℕ} → Fewest R i j ps → Fewest Q i j ps
  fewest_as s = record { walk = walk_as f s.walk; fewest = λ qs w. s.fewest qs (walk_as g w); lowest = λ qs w. s.lowest qs (walk_as g w) }

  pub chain_as : {i j : ℕ} {c : Chain} → ShortestChain R i j c → ShortestChain Q i j c
  chain_as s = record { positions = s.positions; fewest = fewest_as s.fewest; is = s.is }
