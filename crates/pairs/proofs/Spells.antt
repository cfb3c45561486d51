-- The marks that two maps spell, byte by byte; that a pair of maps spells a policy; and a run of marks with zeros behind them. Assumes nothing.
use Prim.Native.Nat.{ℕ, ◌+◌, ◌-◌, ◌*◌, ◌/◌, ◌%◌, ◌^◌, ◌≤◌, ◌<◌}
use mathlib.Core.Path.{◌≡◌, refl, sym, ap, ◌∙◌}
use mathlib.Core.Logic.{◌≢◌, ◌⊎◌, inl, inr}
use mathlib.Core.List.{List, ◌++◌}
use native.Mathlib.Nat.{sub-zero}
use native.Mathlib.Decide.{ℕ_discrete}
use native.Mathlib.Omega.{arith}
use lib.ListN.{length, get_or, set, take, drop, replicate, length-set, get_or-replicate, length-append, length-drop, get_or-append, get_or-eq_default}
use lib.Seq.{ext_get_or, get_or-set_same, get_or-set_other, length-take-le, get_or-take, get_or-drop, get_or-append-add}
use Rattle.table.proofs.Lists.{le_or_lt}
use Rattle.policy.specs.Marks.{Legal, Fit, Policy}
use Rattle.policy.proofs.Tabulates.{tabulate_length, tabulate_at}
use Rattle.pairs.specs.Maps.{Maps, bit_of, mark_of, marks_of, Sized, Apart, Paired, MapPolicy, marks_for}
use Rattle.pairs.specs.Steps.Spelling.{Spelled, Holds}
use Rattle.pairs.proofs.Bytes.{place_byte, place_bit, bit_few, bit_clear}

-- the mark at place j of byte k
mark_at : (m : Maps) (k j : ℕ) → j < 8 → mark_of m (8 * k + j) ≡ get_or m.allowed k 0 / 2 ^ j % 2 + 2 * (get_or m.forbidden k 0 / 2 ^ j % 2)
mark_at m k j l = rw (place_byte k j l, place_bit k j l) refl

-- the marks of the lowest j bits stand from a place on, and the rest is as it was
pub record BitsSpelled (a f at j : ℕ) (old new : List ℕ) : Type 0 where
  pub size : length new ≡ length old
  pub each : (i : ℕ) → i < j → get_or new (at + i) 0 ≡ a / 2 ^ i % 2 + 2 * (f / 2 ^ i % 2)
  pub rest : (p : ℕ) → (p < at) ⊎ (at + j ≤ p) → get_or new p 0 ≡ get_or old p 0

pub bits_start : {a f at : ℕ} {old : List ℕ} → BitsSpelled a f at 0 old old
bits_start = record { size = refl; each = λ i l. absurd (omega arith); rest = λ p l. refl }

pub bits_more : {a f at j mark : ℕ} {old new : List ℕ} → BitsSpelled a f at j old new → at + j < length new → mark ≡ a / 2 ^ j % 2 + 2 * (f / 2 ^ j % 2)
    → BitsSpelled a f at (j + 1) old (set new (at + j) mark)
bits_more {a} {f} {at} {j} {mark} {old} {new} s l e = record {
  size = length-set new (at + j) mark ∙ s.size;
  each = λ i h. go i h (ℕ_discrete i j);
  rest = λ p h. get_or-set_other new (at + j) p mark 0 (apart p h) ∙ s.rest p (wider p h);
}
  where
    go : (i : ℕ) → i < j + 1 → Dec (i ≡ j) → get_or (set new (at + j) mark) (at + i) 0 ≡ a / 2 ^ i % 2 + 2 * (f / 2 ^ i % 2)
    go i h (yes q) = rw q (get_or-set_same new (at + j) mark 0 l ∙ e)
    go i h (no d) = get_or-set_other new (at + j) (at + i) mark 0 (λ q. d (omega arith)) ∙ s.each i (omega (arith, d))

    apart : (p : ℕ) → (p < at) ⊎ (at + (j + 1) ≤ p) → p ≢ at + j
    apart p (inl h) = omega arith
    apart p (inr h) = omega arith

    wider : (p : ℕ) → (p < at) ⊎ (at + (j + 1) ≤ p) → (p < at) ⊎ (at + j ≤ p)
    wider p (inl h) = inl h
    wider p (inr h) = inr (omega arith)

-- two bits that are not both set are a mark
mark_legal : (m : Maps) (p : ℕ) → Apart m p → mark_of m p ≤ 2
mark_legal m p d = go (le_or_lt (bit_of m.allowed p) 0) (le_or_lt (bit_of m.forbidden p) 0)
  where
    go : (bit_of m.allowed p ≤ 0) ⊎ (0 < bit_of m.allowed p) → (bit_of m.forbidden p ≤ 0) ⊎ (0 < bit_of m.forbidden p) → mark_of m p ≤ 2
    go (inl a) f = omega (arith, bit_few m.forbidden p)
    go (inr a) (inl f) = omega (arith, bit_few m.allowed p)
    go (inr a) (inr f) = absurd (d (omega (arith, bit_few m.allowed p), omega (arith, bit_few m.forbidden p)))

module _ {v : ℕ} {m : Maps} (w : Paired v m) where
  pub paired_fit : Fit v (marks_of v m)
  paired_fit = record { size = tabulate_length v (mark_of m); legal = λ p l. rw (tabulate_at v (mark_of m) p l) (mark_legal m p (w.apart p l)) }

  -- behind the privileges no bit is set
  pub allowed_clear : (p : ℕ) → v ≤ p → bit_of m.allowed p ≡ 0
  allowed_clear p l = bit_clear m.allowed p (λ s. w.clear (inl (record { at = p; behind = l; is = s })))

  pub forbidden_clear : (p : ℕ) → v ≤ p → bit_of m.forbidden p ≡ 0
  forbidden_clear p l = bit_clear m.forbidden p (λ s. w.clear (inr (record { at = p; behind = l; is = s })))

  pub mark_clear : (p : ℕ) → v ≤ p → mark_of m p ≡ 0
  mark_clear p l = omega (arith, allowed_clear p l, forbidden_clear p l)

  -- the mark of each number, the last privilege's and those behind it
  pub marks_at : (p : ℕ) → get_or (marks_of v m) p 0 ≡ mark_of m p
  marks_at p = elim (le_or_lt v p) [
    | inl l ↦ get_or-eq_default (marks_of v m) 0 (omega (arith, tabulate_length v (mark_of m))) ∙ sym (mark_clear p l)
    | inr l ↦ tabulate_at v (mark_of m) p l
  ]

pub spells_policy : {ws : List ℕ} {m : Maps} → MapPolicy ws m → Policy ws (marks_for ws m)
spells_policy p = record { accepted = p.accepted; fit = paired_fit p.paired }

-- what spelling asks for
pub spell_room : {v : ℕ} {m : Maps} → Sized v m → v ≤ 4096 → (length m.allowed ≤ 512) × (length m.forbidden ≡ length m.allowed)
spell_room s l = (omega (arith, s.allowed), s.forbidden ∙ sym s.allowed)

-- what is spelled into zeros
pub spelled_holds : {v : ℕ} {m : Maps} {run : List ℕ} → Paired v m → Spelled (length m.allowed) m (replicate 4096 0) run → Holds (marks_of v m) run
spelled_holds {v} {m} {run} w s = record { size = s.size ∙ refl; each = λ p. go p (le_or_lt (8 * length m.allowed) p) ∙ sym (marks_at w p) }
  where
    zeros : (p : ℕ) → get_or {A = ℕ} (replicate 4096 0) p 0 ≡ 0
    zeros p = elim (le_or_lt 4096 p) [ inl l ↦ get_or-eq_default {A = ℕ} (replicate 4096 0) 0 l | inr l ↦ get_or-replicate {A = ℕ} 4096 p 0 0 l ]

    go : (p : ℕ) → (8 * length m.allowed ≤ p) ⊎ (p < 8 * length m.allowed) → get_or run p 0 ≡ mark_of m p
    go p (inr l) = s.each p l
    go p (inl l) = s.rest p l ∙ zeros p ∙ sym (mark_clear w p (omega (arith, w.sized.allowed)))

module _ {v : ℕ} {n run : List ℕ} (h : Holds n run) (s : length n ≡ v) (few : v ≤ 4096) where
  -- its front
  pub holds_front : take v run ≡ n
  holds_front =
      let size : length (take v run) ≡ v = length-take-le v run (omega (arith, h.size)) in
      ext_get_or 0 (take v run) n (size ∙ sym s) (λ p l. get_or-take v run p 0 (rw size at l) ∙ h.each p)

  -- with other marks at its front
  pub holds_other : {o : List ℕ} → length o ≡ v → Holds o (o ++ drop v run)
  holds_other {o} t = record { size = size; each = λ p. go p (le_or_lt v p) }
    where
      size : length (o ++ drop v run) ≡ 4096
      size = omega (arith, length-append o (drop v run), length-drop v run, h.size)

      go : (p : ℕ) → (v ≤ p) ⊎ (p < v) → get_or (o ++ drop v run) p 0 ≡ get_or o p 0
      go p (inr l) = get_or-append o (drop v run) 0 p (omega arith)
      go p (inl l) =
          let f : v + (p - v) ≡ p = omega arith in
          let e : length o + (p - v) ≡ p = omega arith in
          ap (λ (q : ℕ). get_or (o ++ drop v run) q 0) (sym e)
          ∙ get_or-append-add o (drop v run) (p - v) 0
          ∙ get_or-drop v run (p - v) 0
          ∙ ap (λ (q : ℕ). get_or run q 0) f
          ∙ h.each p
          ∙ get_or-eq_default n 0 (omega arith)
          ∙ sym (get_or-eq_default o 0 (omega arith))

-- marks that were written at the front of such a run are all that it holds
pub holds_written : {v : ℕ} {n run o : List ℕ} → Holds n run → length n ≡ v → Fit v o → v ≤ 4096 → Holds o (o ++ drop (v - 0) run)
holds_written {v} {n} {run} {o} h s f l = rw (sub-zero v) (holds_other h s l f.size)

-- the front of what is spelled is the marks
pub spelled_front : {v : ℕ} {m : Maps} {run : List ℕ} → Paired v m → v ≤ 4096 → Spelled (length m.allowed) m (replicate 4096 0) run → take v run ≡ marks_of v m
spelled_front {v} {m} w l s = holds_front (spelled_holds w s) (tabulate_length v (mark_of m)) l

-- and it holds them
pub spelled_whole : {v : ℕ} {m : Maps} {run : List ℕ} → Paired v m → v ≤ 4096 → Spelled (length m.allowed) m (replicate 4096 0) run → Holds (take v run) run
spelled_whole w l s = rw (spelled_front w l s) (spelled_holds w s)

pub holds_legal : {v : ℕ} {n run : List ℕ} → Holds n run → Fit v n → (p : ℕ) → Legal run p
holds_legal {v} {n} {run} h f p = elim (le_or_lt v p) [
  | inl l ↦ omega (arith, h.each p, get_or-eq_default n 0 {n = p} (omega (arith, f.size)))
  | inr l ↦ omega (arith, h.each p, f.legal p l)
]
