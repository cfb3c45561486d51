-- What carrying keeps: the new marks are a policy, what is set was set, no set mark vanishes untold, and setting more sets more. Assumes nothing.
use Prim.Native.Nat.{ℕ, ◌≤◌, ◌<◌}
use mathlib.Core.Path.{◌≡◌, sym, ap, ◌∙◌}
use mathlib.Core.Logic.{◌≢◌, ◌⊎◌, inl, inr}
use mathlib.Core.List.{List}
use native.Mathlib.Omega.{arith}
use lib.ListN.{get_or}
use Rattle.table.specs.Words.{types}
use Rattle.table.specs.Privilege.{privileges}
use Rattle.table.specs.Check.{Accepted}
use Rattle.policy.specs.Marks.{Keeps, Policy}
use Rattle.policy.proofs.Policies.{marked_within}
use Rattle.carry.specs.Numbers.{NewNumbers}
use Rattle.carry.specs.Carries.{Becomes, NewMark, kept, fresh, LostByte, lost, unset, housed, Carries, Move}
use Rattle.carry.proofs.Becoming.{becomes_below, becomes_from}

module _ {old marks new numbers n bytes : List ℕ} where
  -- the new marks are a policy of the new table
  pub carries_policy : Move old marks new numbers → Carries old marks new numbers n bytes → Policy new n
  carries_policy v c = record { accepted = v.accepted; fit = record { size = c.size; legal = λ q l. legal (c.marks_are q l) } }
    where
      legal : {q m : ℕ} → NewMark (λ p. Becomes old new numbers p q) marks m → m ≤ 2
      legal (kept p b e) = rw e (v.policy.fit.legal p (becomes_below b).0)
      legal (fresh d e) = omega arith

  -- what is set in the new marks was set in the old ones
  pub set_before : Carries old marks new numbers n bytes → (q : ℕ) → get_or n q 0 ≢ 0 → (p : ℕ) × Becomes old new numbers p q × (get_or marks p 0 ≡ get_or n q 0)
  set_before c q d = from d (c.marks_are q (omega (arith, c.size, marked_within n q d)))
    where
      from : {m : ℕ} → m ≢ 0 → NewMark (λ p. Becomes old new numbers p q) marks m → (p : ℕ) × Becomes old new numbers p q × (get_or marks p 0 ≡ m)
      from s (kept p b e) = (p, b, sym e)
      from s (fresh g e) = absurd (s e)

-- the mark of the new privilege that an old one becomes is its own
pub home_mark : {old marks new numbers n bytes : List ℕ} {p q : ℕ} → Accepted old → Accepted new → NewNumbers (types old) (types new) numbers
    → Carries old marks new numbers n bytes → Becomes old new numbers p q → get_or n q 0 ≡ get_or marks p 0
home_mark {old} {marks} {new} {numbers} {p = p} {q = q} a d l c b = here (c.marks_are q (becomes_below b).1)
  where
    here : {m : ℕ} → NewMark (λ p. Becomes old new numbers p q) marks m → m ≡ get_or marks p 0
    here (kept r g e) = e ∙ ap (λ (z : ℕ). get_or marks z 0) (becomes_from a d l g b)
    here (fresh g e) = absurd (g p b)

-- an old privilege with a new home is not told as lost
pub home_byte : {old marks new numbers n bytes : List ℕ} {p q : ℕ} → Carries old marks new numbers n bytes → Becomes old new numbers p q → get_or bytes p 0 ≡ 0
home_byte {old} {marks} {new} {numbers} {p = p} {q = q} c b = here (c.bytes_are p (becomes_below b).0)
  where
    here : {mark byte : ℕ} → LostByte (Becomes old new numbers p) mark byte → byte ≡ 0
    here (lost s d e) = absurd (d q b)
    here (unset z e) = e
    here (housed r h e) = e

-- a set mark stands at its new home, or has none and is told as lost
pub none_vanishes : {old marks new numbers n bytes : List ℕ} → Move old marks new numbers → Carries old marks new numbers n bytes → (p : ℕ) → get_or marks p 0 ≢ 0
    → ((q : ℕ) × Becomes old new numbers p q × (get_or n q 0 ≡ get_or marks p 0) × (get_or bytes p 0 ≡ 0))
    ⊎ (((q : ℕ) → ¬ Becomes old new numbers p q) × (get_or bytes p 0 ≡ 1))
none_vanishes {old} {marks} {new} {numbers} {n} {bytes} v c p d = go (c.bytes_are p (omega (arith, v.policy.fit.size, marked_within marks p d)))
  where
    go : LostByte (Becomes old new numbers p) (get_or marks p 0) (get_or bytes p 0)
        → ((q : ℕ) × Becomes old new numbers p q × (get_or n q 0 ≡ get_or marks p 0) × (get_or bytes p 0 ≡ 0))
        ⊎ (((q : ℕ) → ¬ Becomes old new numbers p q) × (get_or bytes p 0 ≡ 1))
    go (lost s g e) = inr (g, e)
    go (unset z e) = absurd (d z)
    go (housed q b e) = inl (q, b, home_mark v.policy.accepted v.accepted v.listed c b, e)

-- setting more old marks sets more new ones, and tells no fewer as lost
module _ {old m k new numbers n x o y : List ℕ} where
  pub carries_more : Move old m new numbers → Carries old m new numbers n x → Carries old k new numbers o y → Keeps m k → Keeps n o
  carries_more v c d keeps q s =
      let b = set_before c q s in
      home_mark v.policy.accepted v.accepted v.listed d b.1 ∙ keeps b.0 (λ z. s (sym b.2 ∙ z)) ∙ b.2

  pub lost_more : Carries old m new numbers n x → Carries old k new numbers o y → Keeps m k → (p : ℕ) → get_or x p 0 ≡ 1 → get_or y p 0 ≡ 1
  lost_more c d keeps p e =
      let l : p < privileges old = omega (arith, c.bytes_size, marked_within x p (λ z. omega arith)) in
      go (c.bytes_are p l) (d.bytes_are p l)
    where
      go : LostByte (Becomes old new numbers p) (get_or m p 0) (get_or x p 0) → LostByte (Becomes old new numbers p) (get_or k p 0) (get_or y p 0) → get_or y p 0 ≡ 1
      go (lost s g f) (lost t h u) = u
      go (lost s g f) (unset z u) = absurd (s (sym (keeps p s) ∙ z))
      go (lost s g f) (housed q b u) = absurd (g q b)
      go (unset z f) w = absurd (omega arith)
      go (housed q b f) w = absurd (omega arith)
