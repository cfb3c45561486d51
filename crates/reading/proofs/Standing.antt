-- Texts that stand in a listing: one behind another is both together, and the other way. Assumes nothing.
use Rattle.std.proofs.Common.{Option, is_some, true, false, Some, None, ℕ, suc, ◌+◌, ◌-◌, ◌≤◌, ◌<◌, ◌≡◌, refl, sym, ap, subst, ◌∙◌, ◌≢◌, ◌⊎◌, inl, inr, List, [], ◌∷◌, ◌++◌, append_assoc, arith, length, get_or, take, drop, length-append, length-drop, drop-drop, drop-cons}
use Rattle.std.proofs.Math.Seq.{drop-append_seam, take-append_seam}
use Rattle.table.proofs.Lists.{le_or_lt}
use Rattle.runs.proofs.Parts.{slice_part}
use Rattle.labels.specs.Steps.Booked.{Plain}
use Rattle.listing.proofs.Lines.{slice_drop, cut_one}
use Rattle.reading.specs.Steps.Matching.{Stands, ended, Matched, Sought}
use Rattle.reading.specs.declared.matching.Ended.{Ended}

module _ {t : List ℕ} where
  stands_drop : {a b : ℕ} {w : List ℕ} → Stands t a w b → drop a t ≡ w ++ drop b t
  stands_drop {a} {b} s = sym (slice_drop a b t (omega (arith, s.end))) ∙ ap (λ (l : List ℕ). l ++ drop b t) s.is

  drop_stands : (a b : ℕ) (w rest : List ℕ) → a ≤ length t → b ≡ a + length w → drop a t ≡ w ++ rest → Stands t a w b
  drop_stands a b w rest h e q =
      let n : length t - a ≡ length w + length rest = sym (length-drop a t) ∙ ap length q ∙ length-append w rest in
      let m : b - a ≡ length w = omega arith in
      record {
        end = e;
        within = omega arith;
        is = slice_part a b t ∙ ap (λ (k : ℕ). take k (drop a t)) m ∙ ap (take (length w)) q ∙ take-append_seam w rest;
      }

  pub stands_join : {a b c : ℕ} {u v : List ℕ} → Stands t a u b → Stands t b v c → Stands t a (u ++ v) c
  stands_join {a} {b} {c} {u} {v} s r =
      drop_stands a c (u ++ v) (drop c t) (omega (arith, s.within, s.end)) (omega (arith, s.end, r.end, length-append u v))
      (stands_drop s ∙ ap (λ (l : List ℕ). u ++ l) (stands_drop r) ∙ sym (append_assoc u v (drop c t)))

  pub stands_first : {a c : ℕ} (u v : List ℕ) → Stands t a (u ++ v) c → Stands t a u (a + length u)
  stands_first {a} {c} u v s =
      drop_stands a (a + length u) u (v ++ drop c t) (omega (arith, s.within, s.end)) refl (stands_drop s ∙ append_assoc u v (drop c t))

  stands_second : {a c : ℕ} (u v : List ℕ) → Stands t a (u ++ v) c → Stands t (a + length u) v c
  stands_second {a} {c} u v s =
      let n = length-append u v in
      drop_stands (a + length u) c v (drop c t) (omega (arith, s.within, s.end, n)) (omega (arith, s.end, n))
      (sym (drop-drop (length u) a t) ∙ ap (drop (length u)) (stands_drop s ∙ append_assoc u v (drop c t)) ∙ drop-append_seam u (v ++ drop c t))

  pub stands_as : {a b : ℕ} {u v : List ℕ} → u ≡ v → Stands t a u b → Stands t a v b
  stands_as {a} {b} e s = subst (λ (w : List ℕ). Stands t a w b) e s

  -- behind the first of two texts stands the second
  pub stands_behind : {a b c : ℕ} {u v : List ℕ} → Stands t a u b → Stands t a (u ++ v) c → Stands t b v c
  stands_behind {c = c} {u = u} {v = v} s r = subst (λ (k : ℕ). Stands t k v c) (sym s.end) (stands_second u v r)

  -- two parts without blanks and newlines that are ended by one byte are the same
  pub stands_one : {a b c : ℕ} (p q : List ℕ) (stop : ℕ) → (stop ≡ 32) ⊎ (stop ≡ 10) → Plain p → Plain q → Stands t a (ended p stop) b → Stands t a (ended q stop) c → p ≡ q
  stands_one {a} {b} {c} p q stop cuts g h s r =
      (cut_one p q g h cuts cuts (sym (append_assoc p (stop ∷ []) (drop b t)) ∙ sym (stands_drop s) ∙ stands_drop r ∙ append_assoc q (stop ∷ []) (drop c t))).0

  -- one text behind another
  pub matched_then : (r : Option ℕ) {a m : ℕ} {u : List ℕ} (v : List ℕ) → Stands t a u m → Matched t m v r → Matched t a (u ++ v) r
  matched_then None v p f = λ b s. f b (stands_behind p s)
  matched_then (Some r) v p s = stands_join p s

  pub not_first : {a : ℕ} (u v : List ℕ) → ((b : ℕ) → ¬ Stands t a u b) → (b : ℕ) → ¬ Stands t a (u ++ v) b
  not_first u v f b s = f _ (stands_first u v s)

  -- a part and the byte that ends it, looked at the other way round
  pub ended_stands : {a : ℕ} (w : List ℕ) (stop : ℕ) → length w < length t - a → get_or t (a + length w) 0 ≡ stop → take (a + length w - a) (drop a t) ≡ w
      → Stands t a (ended w stop) (a + length w + 1)
  ended_stands {a} w stop h e q =
      let one : Stands t a w (a + length w) = record { end = refl; within = omega arith; is = slice_part a (a + length w) t ∙ q } in
      let n = length-append w (stop ∷ []) in
      drop_stands a (a + length w + 1) (ended w stop) (drop (suc (a + length w)) t) (omega arith) (omega (arith, n))
      (stands_drop one
      ∙ ap (λ (l : List ℕ). w ++ l) (drop-cons t (a + length w) 0 (omega arith) ∙ ap (λ (z : ℕ). z ∷ drop (suc (a + length w)) t) e)
      ∙ sym (append_assoc w (stop ∷ []) (drop (suc (a + length w)) t)))

  stands_ended : {a b : ℕ} (w : List ℕ) (stop : ℕ) → Stands t a (ended w stop) b
      → (a + length w < length t) × (get_or t (a + length w) 0 ≡ stop) × (take (a + length w - a) (drop a t) ≡ w)
  stands_ended {a} {b} w stop s =
      let n = length-append w (stop ∷ []) in
      let last = stands_second w (stop ∷ []) s in
      let h : a + length w < length t = omega (arith, s.end, s.within, n) in (
        h,
        ap (λ (l : List ℕ). get_or l 0 0) (sym (drop-cons t (a + length w) 0 h) ∙ stands_drop last),
        sym (slice_part a (a + length w) t) ∙ (stands_first w (stop ∷ []) s).is,
      )

  -- where it does not stand: another byte ends it, or the bytes are others
  pub other_stop : {a : ℕ} (w : List ℕ) (stop : ℕ) → get_or t (a + length w) 0 ≢ stop → (b : ℕ) → ¬ Stands t a (ended w stop) b
  other_stop w stop d b s = d (stands_ended w stop s).1

  pub other_bytes : {a : ℕ} (w : List ℕ) (stop : ℕ) → take (a + length w - a) (drop a t) ≢ w → (b : ℕ) → ¬ Stands t a (ended w stop) b
  other_bytes w stop d b s = d (stands_ended w stop s).2

-- a search stands at x, and none of the texts from the first number on stands there
pub record Unsought (w : ℕ → List ℕ) (t : List ℕ) (a from x : ℕ) : Type 0 where
  pub low : from ≤ x
  pub none : (k b : ℕ) → from ≤ k → k < x → ¬ Stands t a (w k) b

-- behind a place first, and then before it
module _ (w : ℕ → List ℕ) (t : List ℕ) (a near to : ℕ) where
  pub sought_first : (r : Option Ended) → true ≡ is_some r → Sought w t a near to r → Sought w t a 0 to r
  sought_first None e f = absurd (cc)
  sought_first (Some x) e s = record { low = omega arith; below = s.below; stands = s.stands }

  pub sought_then : (r q : Option Ended) → false ≡ is_some r → near ≤ to → Sought w t a near to r → Sought w t a 0 near q → Sought w t a 0 to q
  sought_then (Some x) q e le p s = absurd (cc)
  sought_then None None e le p f = λ k b l h. elim (le_or_lt near k) [ inl g ↦ p k b g h | inr g ↦ f k b l g ]
  sought_then None (Some x) e le p s = record { low = s.low; below = omega (arith, s.below); stands = s.stands }
