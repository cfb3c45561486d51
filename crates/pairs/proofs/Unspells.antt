-- The maps of marks, byte by byte, and a result with maps at its front. Assumes nothing.
use Prim.Native.Nat.{ℕ, ◌+◌, ◌*◌, ◌/◌, ◌%◌, ◌^◌, ◌<◌}
use mathlib.Core.Path.{◌≡◌, refl, sym, ap, ◌∙◌}
use mathlib.Core.Bool.{Bool, true, false, cond}
use mathlib.Core.List.{List, ◌++◌}
use native.Mathlib.Decide.{ℕ_discrete}
use native.Mathlib.Omega.{arith}
use borrow.Author.Tests.{eq-eqb, ne_eqb}
use lib.Dec.{eqb}
use lib.ListN.{length, get_or, set, drop, length-set}
use lib.Seq.{get_or-set_same, get_or-set_other}
use Rattle.table.specs.Steps.Found.{Tells}
use Rattle.policy.specs.Steps.Squares.{bit}
use Rattle.policy.specs.Steps.Packed.{place_of, Eight, Gathered}
use Rattle.policy.proofs.Bits.{bit_from}
use Rattle.policy.proofs.Tabulates.{tabulate_length, tabulate_is}
use Rattle.pairs.specs.Maps.{maps, is_mark, byte_of, map_of, maps_of, bytes_for, before}
use Rattle.pairs.specs.Steps.Spelling.{Unspelled}
use Rattle.pairs.proofs.Bytes.{byte_of_lem, byte_same}

-- a flag that tells whether a privilege has a mark, as a bit
told_mark : (mark : ℕ) (marks : List ℕ) (p x : ℕ) → x < 2 → Tells (get_or marks p 0 ≡ mark) (eqb x 1) → x ≡ is_mark mark marks p
told_mark mark marks p x l t = go (ℕ_discrete x 1)
  where
    told : (b : Bool) → eqb x 1 ≡ b → Tells (get_or marks p 0 ≡ mark) b
    told b e = rw e at t

    go : Dec (x ≡ 1) → x ≡ is_mark mark marks p
    go (yes e) = rw (eq-eqb (get_or marks p 0) mark (told true (eq-eqb x 1 e))) e
    go (no d) = rw (ne_eqb (get_or marks p 0) mark (told false (ne_eqb x 1 d))) (omega arith)

-- the byte that is gathered of eight marks
module _ {marks : List ℕ} (k : ℕ) {eight r : ℕ} (e : Eight marks (8 * k) eight) where
  gathers : (mark : ℕ) → r < 256 → ((j : ℕ) → j < 8 → Tells (get_or marks (8 * k + j) 0 ≡ mark) (bit r j)) → r ≡ byte_of (λ j. is_mark mark marks (8 * k + j))
  gathers mark l t =
      sym (byte_of_lem r l) ∙ byte_same (λ j. r / 2 ^ j % 2) (λ j. is_mark mark marks (8 * k + j)) (λ j h. told_mark mark marks (8 * k + j) (r / 2 ^ j % 2) (omega arith) (t j h))

  pub eight_ones : Gathered eight r → r ≡ byte_of (λ j. is_mark 1 marks (8 * k + j))
  eight_ones g = gathers 1 g.small (λ j l. rw (g.bits j l) (e.ones j l))

  pub eight_twos : Gathered (eight / 2) r → r ≡ byte_of (λ j. is_mark 2 marks (8 * k + j))
  eight_twos g = gathers 2 g.small (λ j l. rw (g.bits j l ∙ bit_from 1 eight (place_of j) (place_of j + 1) (omega arith)) (e.twos j l))

-- k bytes are written
pub record Written (mark : ℕ) (marks : List ℕ) (k : ℕ) (old new : List ℕ) : Type 0 where
  pub size : length new ≡ length old
  pub each : (i : ℕ) → i < k → get_or new i 0 ≡ byte_of (λ j. is_mark mark marks (8 * i + j))

pub written_start : {mark : ℕ} {marks old : List ℕ} → Written mark marks 0 old old
written_start = record { size = refl; each = λ i l. absurd (omega arith) }

pub written_more : {mark : ℕ} {marks : List ℕ} {k byte : ℕ} {old new : List ℕ} → Written mark marks k old new → k < length new
    → byte ≡ byte_of (λ j. is_mark mark marks (8 * k + j)) → Written mark marks (k + 1) old (set new k byte)
written_more {mark} {marks} {k} {byte} {old} {new} s l e = record { size = length-set new k byte ∙ s.size; each = λ i h. go i h (ℕ_discrete i k) }
  where
    go : (i : ℕ) → i < k + 1 → Dec (i ≡ k) → get_or (set new k byte) i 0 ≡ byte_of (λ j. is_mark mark marks (8 * i + j))
    go i h (yes q) = rw q (get_or-set_same new k byte 0 l ∙ e)
    go i h (no d) = get_or-set_other new k i byte 0 d ∙ s.each i (omega (arith, d))

-- the map of marks that stand at the front of a run with zeros behind them
pub unspelled_map : {mark v : ℕ} {marks map old : List ℕ} (n : List ℕ) → length n ≡ v → length old ≡ bytes_for v → ((p : ℕ) → get_or marks p 0 ≡ get_or n p 0)
    → Unspelled mark marks map old → map ≡ map_of mark n
unspelled_map {mark} {v} {marks} {map} {old} n s t same u =
    tabulate_is (bytes_for (length n)) (λ k. byte_of (λ j. is_mark mark n (8 * k + j))) map (u.size ∙ t ∙ ap bytes_for (sym s))
    (λ k l. u.each k (omega (arith, u.size, t, s)) ∙ byte_same (λ j. is_mark mark marks (8 * k + j)) (λ j. is_mark mark n (8 * k + j)) (λ j h. ap (λ (x : ℕ). cond (eqb x mark) 1 0) (same (8 * k + j))))

-- a result that has them at its front
pub maps_before : {v : ℕ} {marks x y old-x old-y : List ℕ} (n a f : List ℕ) (b : ℕ) → length n ≡ v → b ≡ bytes_for v → length old-x ≡ bytes_for v → length old-y ≡ bytes_for v
    → ((p : ℕ) → get_or marks p 0 ≡ get_or n p 0) → Unspelled 1 marks x old-x → Unspelled 2 marks y old-y → maps (x ++ drop b a) (y ++ drop b f) ≡ before (maps_of n) (maps a f)
maps_before {v} {marks} {x} {y} n a f b s t q r same u w =
    ap (λ (l : List ℕ). maps (l ++ drop b a) (y ++ drop b f)) (unspelled_map n s q same u)
    ∙ ap (λ (l : List ℕ). maps (map_of 1 n ++ drop b a) (l ++ drop b f)) (unspelled_map n s r same w)
    ∙ ap (λ (k : ℕ). maps (map_of 1 n ++ drop k a) (map_of 2 n ++ drop b f)) (size 1)
    ∙ ap (λ (k : ℕ). maps (map_of 1 n ++ drop (length (map_of 1 n)) a) (map_of 2 n ++ drop k f)) (size 2)
  where
    size : (mark : ℕ) → b ≡ length (map_of mark n)
    size mark = t ∙ sym (tabulate_length (bytes_for (length n)) (λ k. byte_of (λ j. is_mark mark n (8 * k + j))) ∙ ap bytes_for s)
