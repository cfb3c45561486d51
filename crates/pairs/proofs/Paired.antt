-- A pair of maps is checked in one way: its lengths, the bits that are set in both, and the spare ones. Assumes nothing.
use Prim.Native.Nat.{ℕ, zero, suc, ◌+◌, ◌-◌, ◌/◌, ◌%◌, ◌^◌, ◌≤◌, ◌<◌}
use mathlib.Core.Path.{◌≡◌, sym, ap, ◌∙◌}
use mathlib.Core.Logic.{◌≢◌, ◌⊎◌, inl, inr}
use mathlib.Core.List.{List}
use native.Mathlib.Nat.{pow-suc, div-one, zero-div}
use native.Mathlib.Decide.{ℕ_discrete}
use native.Mathlib.Omega.{arith}
use lib.Bits.{bit_and}
use borrow.Author.Tests.{eq-eqb}
use lib.ListN.{length, get_or, get_or-eq_default}
use lib.Pow.{shr-shr, shr_lt}
use Rattle.table.specs.Privilege.{privileges}
use Rattle.table.proofs.Lists.{le_or_lt}
use Rattle.table.proofs.Answers.{answer_one, accepted_answer, lowest_one, refusal_not}
use Rattle.policy.proofs.Bits.{none_shared}
use Rattle.std.specs.Prelude.{Err}
use Rattle.table.specs.Refusals.{number_of, place_of}
use Rattle.table.specs.declared.refusal.Refusal.{Refusal}
use Rattle.pairs.specs.declared.check.PairFault.{PairFault}
use Rattle.pairs.specs.declared.check.PairFault.TheVariants.{Length, Both, SpareBit}
use Rattle.pairs.specs.Faults.{refusal_of, proposed_refusal, fault_number, fault_place}
use Rattle.pairs.specs.Maps.{Maps, maps, bytes_for, Apart, Spare, Paired, Unpaired, length_off, both_set, spare_set, MapPolicy, NoMaps, table, pair}
use Rattle.pairs.specs.Steps.Checking.{PairAnswer, unpaired, paired, MapsAnswer, refused, fits}

-- bytes that share no bit have no privilege with both
pub none_both : (v : ℕ) (a f : List ℕ) → ((k : ℕ) → k < length a → bit_and (get_or a k 0) (get_or f k 0) ≡ 0) → (p : ℕ) → p < v → Apart (maps a f) p
none_both v a f h p l (x, y) = go (le_or_lt (length a) (p / 8))
  where
    go : (length a ≤ p / 8) ⊎ (p / 8 < length a) → ⊥
    go (inl d) = omega (arith, x, ap (λ (z : ℕ). z / 2 ^ (p % 8) % 2) (get_or-eq_default a 0 d), zero-div (2 ^ (p % 8)))
    go (inr d) = none_shared (get_or a (p / 8) 0) (get_or f (p / 8) 0) (h (p / 8) d) (p % 8) (eq-eqb _ 1 x, eq-eqb _ 1 y)

-- a number that is not 0 has a bit that is set
some_bit : (n w : ℕ) → w < 2 ^ n → w ≢ 0 → (j : ℕ) × (j < n) × (w / 2 ^ j % 2 ≡ 1)
some_bit zero w l d = absurd (d (omega arith))
some_bit (suc n) w l d = go (ℕ_discrete (w % 2) 1) (some_bit n (w / 2) (omega (arith, rw (pow-suc 2 n) at l)))
  where
    go : Dec (w % 2 ≡ 1) → (w / 2 ≢ 0 → (j : ℕ) × (j < n) × (w / 2 / 2 ^ j % 2 ≡ 1)) → (j : ℕ) × (j < suc n) × (w / 2 ^ j % 2 ≡ 1)
    go (yes e) rest = (0, omega arith, ap (λ (x : ℕ). x % 2) (div-one w) ∙ e)
    go (no f) rest =
        let r = rest (λ z. d (omega arith)) in
        (1 + r.0, omega (arith, r.1), ap (λ (x : ℕ). x % 2) (sym (shr-shr w 1 r.0)) ∙ r.2)

module _ {v : ℕ} {map : List ℕ} (size : length map ≡ bytes_for v) where
  -- past the bytes no bit is set
  spare_last : (s : Spare v map) → s.at / 8 ≡ v / 8
  spare_last s = go (le_or_lt (length map) (s.at / 8))
    where
      none : get_or map (s.at / 8) 0 ≡ 0 → ⊥
      none e = omega (arith, s.is, ap (λ (x : ℕ). x / 2 ^ (s.at % 8) % 2) e, zero-div (2 ^ (s.at % 8)))

      go : (length map ≤ s.at / 8) ⊎ (s.at / 8 < length map) → s.at / 8 ≡ v / 8
      go (inl l) = absurd (none (get_or-eq_default map 0 l))
      go (inr l) = omega (arith, s.behind)

  -- the spare bits are those of the last byte from the privileges' own on
  pub spare_out : Spare v map → get_or map (v / 8) 0 / 2 ^ (v % 8) ≢ 0
  spare_out s e =
      let at = spare_last s in
      let k : s.at % 8 ≡ v % 8 + (s.at % 8 - v % 8) = omega (arith, s.behind) in
      let byte = get_or map (v / 8) 0 in
      let none : byte / 2 ^ (s.at % 8) ≡ 0
      = ap (λ (x : ℕ). byte / 2 ^ x) k ∙ sym (shr-shr byte (v % 8) (s.at % 8 - v % 8)) ∙ ap (λ (x : ℕ). x / 2 ^ (s.at % 8 - v % 8)) e
      ∙ zero-div (2 ^ (s.at % 8 - v % 8))
      in
      omega (arith, s.is, ap (λ (x : ℕ). get_or map x 0 / 2 ^ (s.at % 8) % 2) at, ap (λ (x : ℕ). x % 2) none)

  pub spare_into : get_or map (v / 8) 0 < 256 → get_or map (v / 8) 0 / 2 ^ (v % 8) ≢ 0 → Spare v map
  spare_into l d =
      let byte = get_or map (v / 8) 0 in
      let e : 8 - v % 8 + v % 8 ≡ 8 = omega arith in
      let small : byte / 2 ^ (v % 8) < 2 ^ (8 - v % 8) = shr_lt (8 - v % 8) (v % 8) (rw e l) in
      let b = some_bit (8 - v % 8) (byte / 2 ^ (v % 8)) small d in
      let byte-is : (v + b.0) / 8 ≡ v / 8 = omega (arith, b.1) in
      let bit_is : (v + b.0) % 8 ≡ v % 8 + b.0 = omega (arith, b.1) in
      record { at = v + b.0; behind = omega arith; is = rw (byte-is, bit_is) (ap (λ (x : ℕ). x % 2) (sym (shr-shr byte (v % 8) b.0)) ∙ b.2) }

module _ {off both spare v : ℕ} {m : Maps} where
  -- a pair is not refused
  pub paired_not : {n p : ℕ} → Paired v m → ¬ Unpaired off both spare v m n p
  paired_not w (length_off d e z) = d w.sized
  paired_not w (both_set s l e) = l.fails (w.apart _ l.within)
  paired_not w (spare_set s a b e z) = w.clear b

  pub unpaired_one : {n p k q : ℕ} → Unpaired off both spare v m n p → Unpaired off both spare v m k q → (n ≡ k) × (p ≡ q)
  unpaired_one (length_off d e z) (length_off f g y) = (e ∙ sym g, z ∙ sym y)
  unpaired_one (length_off d e z) (both_set s l g) = absurd (d s)
  unpaired_one (length_off d e z) (spare_set s a b g y) = absurd (d s)
  unpaired_one (both_set s l e) (length_off f g y) = absurd (f s)
  unpaired_one (both_set s l e) (both_set t k g) = (e ∙ sym g, lowest_one l k)
  unpaired_one (both_set s l e) (spare_set t a b g y) = absurd (l.fails (a _ l.within))
  unpaired_one (spare_set s a b e z) (length_off f g y) = absurd (f s)
  unpaired_one (spare_set s a b e z) (both_set t k g) = absurd (k.fails (a _ k.within))
  unpaired_one (spare_set s a b e z) (spare_set t c d g y) = (e ∙ sym g, z ∙ sym y)

  unpaired_number : {n p : ℕ} → off ≢ 0 → both ≢ 0 → spare ≢ 0 → Unpaired off both spare v m n p → n ≢ 0
  unpaired_number f g h (length_off d e z) = λ y. f (sym e ∙ y)
  unpaired_number f g h (both_set s l e) = λ y. g (sym e ∙ y)
  unpaired_number f g h (spare_set s a b e z) = λ y. h (sym e ∙ y)

  -- by its number
  pub pair_refused : {n p : ℕ} → n ≢ 0 → PairAnswer off both spare v m n p → Unpaired off both spare v m n p
  pair_refused d (unpaired u) = u
  pair_refused d (paired w e z) = absurd (d e)

  pub pair_fits : {n p : ℕ} → off ≢ 0 → both ≢ 0 → spare ≢ 0 → n ≡ 0 → PairAnswer off both spare v m n p → Paired v m
  pair_fits f g h e (unpaired u) = absurd (unpaired_number f g h u e)
  pair_fits f g h e (paired w q z) = w

-- what is wrong with a policy's own pair, and with a proposed one, by the refusal
module _ {v : ℕ} {m : Maps} where
  pub fault_refused : (f : PairFault) → PairAnswer 10 23 24 v m (fault_number {A = ℕ} 10 23 24 (Err f)) (fault_place {A = ℕ} (Err f))
      → Unpaired 10 23 24 v m (number_of (refusal_of f)) (place_of (refusal_of f))
  fault_refused Length a = pair_refused (omega arith) a
  fault_refused (Both p) a = pair_refused (omega arith) a
  fault_refused SpareBit a = pair_refused (omega arith) a

  pub proposed_refused : (f : PairFault) → PairAnswer 13 14 14 v m (fault_number {A = ℕ} 13 14 14 (Err f)) (fault_place {A = ℕ} (Err f))
      → Unpaired 13 14 14 v m (number_of (proposed_refusal f)) (place_of (proposed_refusal f))
  proposed_refused Length a = pair_refused (omega arith) a
  proposed_refused (Both p) a = pair_refused (omega arith) a
  proposed_refused SpareBit a = pair_refused (omega arith) a

module _ {ws : List ℕ} {m : Maps} where
  -- a policy is not refused
  pub maps_not : {n p : ℕ} → MapPolicy ws m → ¬ NoMaps ws m n p
  maps_not pol (table d t) = d (accepted_answer pol.accepted t)
  maps_not pol (pair a u) = paired_not pol.paired u

  pub no_maps_one : {n p k q : ℕ} → NoMaps ws m n p → NoMaps ws m k q → (n ≡ k) × (p ≡ q)
  no_maps_one (table d t) (table e u) = answer_one t u
  no_maps_one (table d t) (pair a u) = absurd (d (accepted_answer a t))
  no_maps_one (pair a u) (table e t) = absurd (e (accepted_answer a t))
  no_maps_one (pair a u) (pair b w) = unpaired_one u w

  no_maps_number : {n p : ℕ} → NoMaps ws m n p → n ≢ 0
  no_maps_number (table d t) = d
  no_maps_number (pair a u) = unpaired_number (λ e. omega arith) (λ e. omega arith) (λ e. omega arith) u

  -- by its number
  pub maps_refused : {n p : ℕ} → n ≢ 0 → MapsAnswer ws m n p → NoMaps ws m n p
  maps_refused d (refused r) = r
  maps_refused d (fits pol e v) = absurd (d e)

  pub maps_fit : {n p : ℕ} → n ≡ 0 → MapsAnswer ws m n p → MapPolicy ws m × (p ≡ privileges ws)
  maps_fit e (refused r) = absurd (no_maps_number r e)
  maps_fit e (fits pol f v) = (pol, v)

  -- a refusal is one
  pub maps_none : (r : Refusal) → MapsAnswer ws m (number_of r) (place_of r) → NoMaps ws m (number_of r) (place_of r)
  maps_none r = maps_refused (refusal_not r)
