-- Counting what is forbidden, stretch by stretch. Assumes nothing.
use Rattle.std.proofs.Common.{ℕ, ◌+◌, ◌≤◌, ◌<◌, ◌≡◌, refl, inl, inr, List, [], ◌∷◌, Bool, true, false, zero-add, add-zero, arith, eqb-true, eqb, get_or}
use Rattle.table.specs.Words.{types}
use Rattle.table.specs.Below.{Below}
use Rattle.table.specs.HowMany.{HowMany, Tallied, some, nothing}
use Rattle.table.specs.Check.{Inside}
use Rattle.table.specs.Privilege.{Belongs, privileges, first_privilege}
use Rattle.table.specs.Steps.Found.{Tells}
use Rattle.table.specs.Steps.Flags.{BelowOne, MarksBelow}
use Rattle.table.proofs.Lists.{le_or_lt}
use Rattle.table.proofs.Lowest.{told_yes}
use Rattle.table.proofs.HowMany.{many_none, none_many, many_as, many_join, tallied_many, tallied_one, tallied_as}
use Rattle.table.proofs.Privileges.{first_next, belongs_one}
use Rattle.verdict.specs.Below.{ForbiddenBelow, ForbiddenTally}
use Rattle.verdict.specs.Steps.Spoils.{Range}
use Rattle.verdict.specs.Steps.Tallies.{Counted, Added, none, first, more, ForbiddenAmong}
use Rattle.verdict.specs.declared.below.Tally.{Tally}

-- a stretch is counted from its first number on
pub range_start : {marks : List ℕ} {from until : ℕ} → HowMany (Range marks from until) from 0
range_start {from = from} = many_none from (λ q l r. omega (arith, r.low))

-- a stretch is added: of its numbers those that are counted have P
module _ {P : ℕ → Type 0} {marks : List ℕ} {from until flag : ℕ} {before : Tally} (l : from ≤ until)
    (into : (q : ℕ) → Counted marks from until flag q → P q) (out : (q : ℕ) → from ≤ q → q < until → P q → Counted marks from until flag q)
    (told : Tallied P from before.lowest before.count) where
  counted : {k : ℕ} → flag ≡ 1 → HowMany (Range marks from until) until k → HowMany P until (before.count + k)
  counted e h = many_join l (tallied_many told) (λ q c. c.range.low) out (λ q i c. into q c)
      (many_as (λ q i m. record { flagged = e; range = m }) (λ q i c. c.range) h)

  pub tallied_added : {r : Tally} → Added marks from until flag before r → Tallied P until r.lowest r.count
  tallied_added {r} (none n e) = rw e (go told)
    where
      past : (q : ℕ) → q < until → P q → q < from
      past q i p = elim (le_or_lt from q) [ inl k ↦ absurd (n q (out q k i p)) | inr k ↦ k ]

      go : Tallied P from before.lowest before.count → Tallied P until before.lowest before.count
      go (some i p least h) = some (omega arith) p (λ q k x. least q (past q k x) x)
          (rw (← add-zero before.count) (many_join {R = λ q. ⊥} l h (λ q x. absurd x) (λ q a b p. n q (out q a b p)) (λ q b x. absurd x) (many_none until (λ q b x. x))))
      go (nothing d e z) = nothing (λ q k x. d q (past q k x) x) e z
  tallied_added {r} (first z e i low h) = some i (into r.lowest (record { flagged = e; range = record { low = low.low; high = i; forbidden = low.forbidden } })) least
      (rw (z, zero-add r.count) at (counted e h))
    where
      least : (q : ℕ) → q < until → P q → r.lowest ≤ q
      least q k p = elim (le_or_lt from q) [
        | inl a ↦ low.least q a (out q a k p).range.forbidden
        | inr a ↦ absurd (none_many (tallied_many told) z q a p)
      ]
  tallied_added {r} (more {k = k} z e h low c) = go told
    where
      go : Tallied P from before.lowest before.count → Tallied P until r.lowest r.count
      go (some i p least g) = rw (low, c) (some (omega arith) p (λ q m x. elim (le_or_lt from q) [ inl a ↦ omega arith | inr a ↦ least q a x ]) (counted e h))
      go (nothing n f y) = absurd (z y)

-- of a type's own privileges those are counted that are forbidden, if it has the flag
module _ (ws marks flags : List ℕ) {x from until : ℕ} (h : x < types ws) (start : from ≡ first_privilege ws x) (end : until ≡ first_privilege ws (x + 1)) (q : ℕ) where
  here : from ≤ q → q < until → Belongs ws q x
  here a b = record { type = h; from = omega arith; until = omega (arith, first_next ws x) }

  pub counted_among : Counted marks from until (get_or flags x 0) q → ForbiddenAmong ws marks flags q
  counted_among c = record { type = x; belongs = here c.range.low c.range.high; flagged = c.flagged; forbidden = c.range.forbidden }

  pub among_counted : from ≤ q → q < until → ForbiddenAmong ws marks flags q → Counted marks from until (get_or flags x 0) q
  among_counted a b f =
      let e : f.type ≡ x = belongs_one f.belongs (here a b) in
      record { flagged = rw e at f.flagged; range = record { low = a; high = b; forbidden = f.forbidden } }

pub all_privileges : (ws : List ℕ) → first_privilege ws (types ws) ≡ privileges ws
unfolding privileges
all_privileges ws = refl

-- a list of one type
pub one_inside : {e y : ℕ} → y < e → Inside e (y ∷ [])
one_inside {y = y} h i l = let z : i ≡ 0 = omega arith in rw z h

-- the types below y have the flag, so what is forbidden in them is what is forbidden below y
module _ {ws flags : List ℕ} {y : ℕ} (told : MarksBelow ws (y ∷ []) flags) where
  flag_below : (x : ℕ) → x < types ws → get_or flags x 0 ≡ 1 → Below ws x y
  flag_below x l e = one (told_yes (eqb (get_or flags x 0) 1) (told.each x l) (rw e))
    where
      one : BelowOne ws (y ∷ []) x → Below ws x y
      one b = let z : b.at ≡ 0 = omega (arith, b.within) in rw z at b.below

  below_flag : (x : ℕ) → x < types ws → Below ws x y → get_or flags x 0 ≡ 1
  below_flag x l b = go (eqb (get_or flags x 0) 1) (told.each x l) refl
    where
      go : (r : Bool) → Tells (BelowOne ws (y ∷ []) x) r → eqb (get_or flags x 0) 1 ≡ r → get_or flags x 0 ≡ 1
      go true t e = eqb-true (get_or flags x 0) 1 e
      go false t e = absurd (t (record { at = 0; within = omega arith; below = b }))

  pub tally_flagged : {marks : List ℕ} {l c : ℕ} → Tallied (ForbiddenAmong ws marks flags) (privileges ws) l c → Tallied (ForbiddenBelow ws marks y) (privileges ws) l c
  tally_flagged = tallied_as
      (λ q i f. record { below = record { type = f.type; belongs = f.belongs; below = flag_below f.type f.belongs.type f.flagged }; forbidden = f.forbidden })
      (λ q i f. record {
        type = f.below.type;
        belongs = f.below.belongs;
        flagged = below_flag f.below.type f.below.belongs.type f.below.below;
        forbidden = f.forbidden;
      })

-- the question has one answer
pub below_one : {ws marks : List ℕ} {y : ℕ} {r s : Tally} → ForbiddenTally ws marks y r → ForbiddenTally ws marks y s → r ≡ s
below_one g h = let e = tallied_one g h in λ d. record { lowest = e.0 d; count = e.1 d }
