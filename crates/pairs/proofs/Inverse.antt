-- Spelling maps into marks and marks into maps are inverse to each other, on the legal ones. Assumes nothing.
use Prim.Native.Nat.{ℕ, ◌+◌, ◌*◌, ◌/◌, ◌%◌, ◌^◌, ◌≤◌, ◌<◌}
use mathlib.Core.Path.{◌≡◌, refl, sym, ap, ◌∙◌}
use mathlib.Core.Logic.{◌≢◌, ◌⊎◌, inl, inr}
use mathlib.Core.List.{List}
use native.Mathlib.Nat.{zero-div}
use native.Mathlib.Decide.{ℕ_discrete}
use native.Mathlib.Omega.{arith}
use borrow.Author.Tests.{eq-eqb, ne_eqb}
use lib.ListN.{length, get_or, get_or-eq_default}
use Rattle.table.proofs.Lists.{le_or_lt}
use Rattle.policy.specs.Marks.{Allowed, Forbidden, Fit}
use Rattle.policy.proofs.Tabulates.{tabulate_length, tabulate_at, tabulate_is}
use Rattle.pairs.specs.Maps.{Maps, maps, bit_of, IsSet, mark_of, marks_of, bytes_for, is_mark, byte_of, map_of, maps_of, Paired}
use Rattle.pairs.proofs.Bytes.{byte_of_lem, byte_bit, byte_same, place_of, bit_at, bit_few, bit_clear, mark_few}
use Rattle.pairs.proofs.Spells.{allowed_clear, forbidden_clear, marks_at}

-- a privilege with the mark, and one with another
mark_is : (mark : ℕ) (marks : List ℕ) (p : ℕ) → get_or marks p 0 ≡ mark → is_mark mark marks p ≡ 1
mark_is mark marks p e = rw (eq-eqb (get_or marks p 0) mark e) refl

mark_not : (mark : ℕ) (marks : List ℕ) (p : ℕ) → get_or marks p 0 ≢ mark → is_mark mark marks p ≡ 0
mark_not mark marks p d = rw (ne_eqb (get_or marks p 0) mark d) refl

-- the bits of the map of a mark
pub map_bit : (mark : ℕ) (marks : List ℕ) → mark ≢ 0 → (p : ℕ) → bit_of (map_of mark marks) p ≡ is_mark mark marks p
map_bit mark marks d p = go (le_or_lt (bytes_for (length marks)) (p / 8))
  where
    byte : ℕ → ℕ
    byte k = byte_of (λ j. is_mark mark marks (8 * k + j))

    go : (bytes_for (length marks) ≤ p / 8) ⊎ (p / 8 < bytes_for (length marks)) → bit_of (map_of mark marks) p ≡ is_mark mark marks p
    go (inl l) =
        ap (λ (x : ℕ). x / 2 ^ (p % 8) % 2) (get_or-eq_default (map_of mark marks) 0 (omega (arith, tabulate_length (bytes_for (length marks)) byte)))
        ∙ ap (λ (x : ℕ). x % 2) (zero-div (2 ^ (p % 8)))
        ∙ sym (mark_not mark marks p (λ e. d (sym e ∙ get_or-eq_default marks 0 (omega arith))))
    go (inr l) =
        ap (λ (x : ℕ). x / 2 ^ (p % 8) % 2) (tabulate_at (bytes_for (length marks)) byte (p / 8) l)
        ∙ byte_bit (λ j. is_mark mark marks (8 * (p / 8) + j)) (λ j. mark_few mark marks (8 * (p / 8) + j)) (p % 8) (omega arith)
        ∙ ap (is_mark mark marks) (sym (place_of p))

-- what is set there
pub map_set : (mark : ℕ) (marks : List ℕ) → mark ≢ 0 → (p : ℕ) → IsSet (map_of mark marks) p → get_or marks p 0 ≡ mark
map_set mark marks d p s = elim (ℕ_discrete (get_or marks p 0) mark) [
  | yes e ↦ e
  | no f ↦ absurd (omega (arith, s, map_bit mark marks d p, mark_not mark marks p f))
]

pub set_map : (mark : ℕ) (marks : List ℕ) → mark ≢ 0 → (p : ℕ) → get_or marks p 0 ≡ mark → IsSet (map_of mark marks) p
set_map mark marks d p e = map_bit mark marks d p ∙ mark_is mark marks p e

-- the maps of marks are a pair
pub maps_paired : {v : ℕ} (marks : List ℕ) → length marks ≡ v → Paired v (maps_of marks)
maps_paired {v} marks s = record {
  sized = record { allowed = size 1; forbidden = size 2 };
  apart = λ p l (a, f). omega (arith, map_set 1 marks (λ e. omega arith) p a, map_set 2 marks (λ e. omega arith) p f);
  clear = λ q. elim q [
    | inl t ↦ omega (arith, map_set 1 marks (λ e. omega arith) t.at t.is, get_or-eq_default marks 0 {n = t.at} (omega (arith, t.behind)))
    | inr t ↦ omega (arith, map_set 2 marks (λ e. omega arith) t.at t.is, get_or-eq_default marks 0 {n = t.at} (omega (arith, t.behind)))
  ];
}
  where
    size : (mark : ℕ) → length (map_of mark marks) ≡ bytes_for v
    size mark = tabulate_length (bytes_for (length marks)) (λ k. byte_of (λ j. is_mark mark marks (8 * k + j))) ∙ ap bytes_for s

-- marks spelled into maps and back
pub marks_back : {v : ℕ} {marks : List ℕ} → Fit v marks → marks_of v (maps_of marks) ≡ marks
marks_back {v} {marks} f = sym (tabulate_is v (mark_of (maps_of marks)) marks f.size (λ p l. go p (f.legal p l) (ℕ_discrete (get_or marks p 0) 1) (ℕ_discrete (get_or marks p 0) 2)))
  where
    bits : (p : ℕ) → mark_of (maps_of marks) p ≡ is_mark 1 marks p + 2 * is_mark 2 marks p
    bits p = omega (arith, map_bit 1 marks (λ e. omega arith) p, map_bit 2 marks (λ e. omega arith) p)

    go : (p : ℕ) → get_or marks p 0 ≤ 2 → Dec (get_or marks p 0 ≡ 1) → Dec (get_or marks p 0 ≡ 2) → get_or marks p 0 ≡ mark_of (maps_of marks) p
    go p l (yes e) d = omega (arith, bits p, mark_is 1 marks p e, mark_not 2 marks p (λ g. omega arith))
    go p l (no c) (yes e) = omega (arith, bits p, mark_not 1 marks p c, mark_is 2 marks p e)
    go p l (no c) (no d) = omega (arith, bits p, mark_not 1 marks p c, mark_not 2 marks p d)

module _ {v : ℕ} {m : Maps} (w : Paired v m) where
  -- a bit of a pair is set exactly if the mark is there
  pub allowed_mark : (p : ℕ) → IsSet m.allowed p → Allowed (marks_of v m) p
  allowed_mark p s = go (le_or_lt v p)
    where
      go : (v ≤ p) ⊎ (p < v) → Allowed (marks_of v m) p
      go (inl l) = absurd (omega (arith, s, allowed_clear w p l))
      go (inr l) = marks_at w p ∙ omega (arith, s, bit_clear m.forbidden p (λ e. w.apart p l (s, e)))

  pub mark_allowed : (p : ℕ) → Allowed (marks_of v m) p → IsSet m.allowed p
  mark_allowed p e = omega (arith, e, marks_at w p, bit_few m.allowed p, bit_few m.forbidden p)

  pub forbidden_mark : (p : ℕ) → IsSet m.forbidden p → Forbidden (marks_of v m) p
  forbidden_mark p s = go (le_or_lt v p)
    where
      go : (v ≤ p) ⊎ (p < v) → Forbidden (marks_of v m) p
      go (inl l) = absurd (omega (arith, s, forbidden_clear w p l))
      go (inr l) = marks_at w p ∙ omega (arith, s, bit_clear m.allowed p (λ e. w.apart p l (e, s)))

  pub mark_forbidden : (p : ℕ) → Forbidden (marks_of v m) p → IsSet m.forbidden p
  mark_forbidden p e = omega (arith, e, marks_at w p, bit_few m.allowed p, bit_few m.forbidden p)

-- a run of bytes
abbrev pub Bytes : List ℕ → Type 0
Bytes map = (k : ℕ) → get_or map k 0 < 256

-- a map whose bits are those of a mark is the map of that mark
map_of_lem : {v : ℕ} (mark : ℕ) (marks map : List ℕ) → length marks ≡ v → length map ≡ bytes_for v → Bytes map → ((p : ℕ) → bit_of map p ≡ is_mark mark marks p) → map_of mark marks ≡ map
map_of_lem {v} mark marks map s t small bits =
    sym (tabulate_is (bytes_for (length marks)) (λ k. byte_of (λ j. is_mark mark marks (8 * k + j))) map (t ∙ ap bytes_for (sym s))
    (λ k l. sym (byte_of_lem (get_or map k 0) (small k)) ∙ byte_same (λ j. get_or map k 0 / 2 ^ j % 2) (λ j. is_mark mark marks (8 * k + j)) (λ j h. sym (bit_at map k j h) ∙ bits (8 * k + j))))

-- maps spelled into marks and back
pub maps_back : {v : ℕ} {m : Maps} → Paired v m → Bytes m.allowed → Bytes m.forbidden → maps_of (marks_of v m) ≡ m
maps_back {v} {m} w a f =
    ap (λ (x : List ℕ). maps x (map_of 2 (marks_of v m))) (map_of_lem 1 (marks_of v m) m.allowed size w.sized.allowed a ones)
    ∙ ap (λ (x : List ℕ). maps m.allowed x) (map_of_lem 2 (marks_of v m) m.forbidden size w.sized.forbidden f twos)
  where
    size : length (marks_of v m) ≡ v
    size = tabulate_length v (mark_of m)

    ones : (p : ℕ) → bit_of m.allowed p ≡ is_mark 1 (marks_of v m) p
    ones p = elim (ℕ_discrete (get_or (marks_of v m) p 0) 1) [
      | yes e ↦ mark_allowed w p e ∙ sym (mark_is 1 (marks_of v m) p e)
      | no d ↦ bit_clear m.allowed p (λ e. d (allowed_mark w p e)) ∙ sym (mark_not 1 (marks_of v m) p d)
    ]

    twos : (p : ℕ) → bit_of m.forbidden p ≡ is_mark 2 (marks_of v m) p
    twos p = elim (ℕ_discrete (get_or (marks_of v m) p 0) 2) [
      | yes e ↦ mark_forbidden w p e ∙ sym (mark_is 2 (marks_of v m) p e)
      | no d ↦ bit_clear m.forbidden p (λ e. d (forbidden_mark w p e)) ∙ sym (mark_not 2 (marks_of v m) p d)
    ]
