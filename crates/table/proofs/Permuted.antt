-- Numbers in another order: the way back, a list there and back, and a sum, which is the same. Assumes nothing.
use Prim.Native.Nat.{ℕ, zero, suc, ◌+◌, ◌*◌, ◌≤◌, ◌<◌}
use mathlib.Core.Path.{◌≡◌, refl, sym, ap, ◌∙◌}
use mathlib.Core.List.{List, [], ◌∷◌, map}
use native.Mathlib.Nat.{zero-mul, mul-suc}
use native.Mathlib.Numerals.{add-one}
use native.Mathlib.Omega.{arith}
use lib.ListN.{length, get_or, length-map}
use lib.Seq.{ext_get_or}
use Rattle.table.specs.Sum.{sum_below}
use Rattle.table.specs.Check.{Inside}
use Rattle.table.specs.Steps.Listed.{Among}
use Rattle.table.specs.Steps.Counts.{unpassed_sum}
use Rattle.table.specs.Renumbered.{Permutes}
use Rattle.table.proofs.Sums.{sum_same, sum_none, sum_pass, unpassed_among}
use Rattle.table.proofs.Listings.{values, value_at}

pub permutes_back : {e : ℕ} {f g : ℕ → ℕ} → Permutes e f g → Permutes e g f
permutes_back p = record { there = p.back; back = p.there; there_back = p.back_there; back_there = p.there_back }

-- a list under new numbers, place by place
pub map_at : (f : ℕ → ℕ) (l : List ℕ) (i : ℕ) → i < length l → get_or (map f l) i 0 ≡ f (get_or l i 0)
map_at f [] i h = absurd (omega arith)
map_at f (x ∷ l) zero h = refl
map_at f (x ∷ l) (suc i) h = map_at f l i (omega arith)

pub map_back : {e : ℕ} {f g : ℕ → ℕ} → Permutes e f g → (l : List ℕ) → Inside e l → map g (map f l) ≡ l
map_back {e} {f} {g} p l h = ext_get_or 0 (map g (map f l)) l (length-map (map f l) g ∙ length-map l f) λ i m.
    let low : i < length l = omega (arith, length-map (map f l) g, length-map l f) in
    map_at g (map f l) i (omega (arith, length-map l f)) ∙ ap g (map_at f l i low) ∙ p.there_back (get_or l i 0) (h i low)

-- a sum of one number
pub sum_always : (c n : ℕ) → sum_below (λ k. c) n ≡ c * n
unfolding sum_below
sum_always c zero = omega arith
sum_always c (suc n) = omega (arith, sum_always c n, mul-suc c n)

-- a sum in another order, its numbers passed one by one
module _ (h : ℕ → ℕ) {e : ℕ} {f g : ℕ → ℕ} (p : Permutes e f g) where
  abbrev order : List ℕ
  order = values g e

  at : (k : ℕ) → k < e → get_or order k 0 ≡ g k
  at = value_at g e

  fresh : (n : ℕ) → n < e → ¬ Among order n (get_or order n 0)
  fresh n l a =
      let low : a.at < e = omega (arith, a.low) in
      let same : g a.at ≡ g n = sym (at a.at low) ∙ a.is ∙ at n l in
      let q : a.at ≡ n = sym (p.back_there a.at low) ∙ ap f same ∙ p.back_there n l in
      absurd (omega (arith, a.low))

  so_far : (n : ℕ) → n ≤ e → sum_below h e ≡ unpassed_sum e h order n + sum_below (λ k. h (g k)) n
  unfolding sum_below
  so_far zero l = omega (arith, sum_none h order e)
  so_far (suc n) l =
      let m : n < e = omega arith in
      let again = so_far n (omega arith) in
      let step = sum_pass h order e n (rw (at n m) (p.back n m)) (fresh n m) in
      let here : h (get_or order n 0) ≡ h (g n) = ap h (at n m) in
      omega (arith, rw (add-one n) at step)

  all_passed : unpassed_sum e h order e ≡ 0
  unfolding unpassed_sum
  all_passed =
      sum_same e (λ y l. unpassed_among h order e y (record { at = f y; low = p.there y l; is = at (f y) (p.there y l) ∙ p.there_back y l }))
      ∙ sum_always 0 e ∙ zero-mul e

  pub sum_permuted : sum_below (λ k. h (g k)) e ≡ sum_below h e
  sum_permuted = omega (arith, so_far e (omega arith), all_passed)
