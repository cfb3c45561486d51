-- The type of a privilege, and which types a type is below. Assumes nothing.
use Prim.Native.Nat.{ℕ, suc, ◌+◌, ◌≤◌, ◌<◌}
use mathlib.Core.Path.{◌≡◌, refl, ap, sym, ◌∙◌}
use mathlib.Core.Logic.{◌≢◌, ◌⊎◌, inl, inr}
use mathlib.Core.List.{List}
use native.Mathlib.Nat.{eq-or-lt_of_le}
use native.Mathlib.Omega.{arith}
use borrow.Author.Tests.{eqb-true}
use lib.Dec.{eqb}
use lib.ListN.{length, get_or, set, replicate, length-set, length-replicate, get_or-replicate}
use lib.Seq.{get_or-set_same, get_or-set_other}
use Rattle.table.specs.Words.{types}
use Rattle.table.specs.Rule.{children_at, child_at, Child}
use Rattle.table.specs.Privilege.{first_privilege, privileges}
use Rattle.table.specs.Below.{Below, here, down}
use Rattle.table.specs.Check.{Accepted}
use Rattle.table.specs.Steps.Found.{Tells}
use Rattle.table.specs.Steps.Order.{BottomUp}
use Rattle.table.proofs.Facts.{facts, child_at_lem}
use Rattle.table.proofs.Lowest.{told_yes, told_true}
use Rattle.verdict.specs.Steps.Spoils.{Joined, risen, kept}
use Rattle.verdict.proofs.Tallies.{all_privileges}
use Rattle.editing.specs.Steps.Aboves.{Aboves}

-- where the privileges of the types passed end at or before p, there is a next type
pub type_more : (ws : List ℕ) {p x next : ℕ} → p < privileges ws → x < types ws → next ≡ first_privilege ws (x + 1) → next ≤ p → x + 1 < types ws
type_more ws {p} {x} l h e k = elim (eq-or-lt_of_le h) [
  | inl q ↦ let z : x + 1 ≡ types ws = omega arith in absurd (omega (arith, ap (first_privilege ws) z, all_privileges ws))
  | inr m ↦ omega arith
]

-- a type stands before those that it is below
module _ {ws order : List ℕ} (bottom : BottomUp ws order) where
  pub below_behind : {i j : ℕ} → i < types ws → j < types ws → Below ws (get_or order i 0) (get_or order j 0) → i ≤ j
  below_behind {i} {j} l m b = go b j m refl
    where
      go : {y : ℕ} → Below ws (get_or order i 0) y → (j : ℕ) → j < types ws → get_or order j 0 ≡ y → i ≤ j
      go here j m e = let q = bottom.once i j l m (sym e) in omega arith
      go (down z c b) j m e = let w = bottom.every z c.inside in omega (arith, go b w.0 w.1 w.2, bottom.after w.0 j w.1 m (rw (w.2, e) c))

-- x is below another type exactly if it is below one of its children
module _ {ws : List ℕ} (a : Accepted ws) {x y : ℕ} (l : y < types ws) (d : x ≢ y) {above : List ℕ} {r : ℕ}
    (kids : (z : ℕ) → Child ws y z → Tells (Below ws x z) (eqb (get_or above z 0) 1)) where
  above_join : Joined (length (children_at ws y)) (children_at ws y) above 0 r → Tells (Below ws x y) (eqb r 1)
  above_join (risen i h e f) = rw f (down (child_at ws y i) kid (told_yes (eqb (get_or above (child_at ws y i) 0) 1) (kids (child_at ws y i) kid) (rw e)))
    where
      kid : Child ws y (child_at ws y i)
      kid = child_at_lem a y i l (rw (← (facts a).children_here y l) h)
  above_join (kept n f) = rw f (λ b. none b d under)
    where
      under : (z : ℕ) → Child ws y z → ¬ Below ws x z
      under z c b = n c.at c.within (rw c.is (eqb-true (get_or above z 0) 1 (told_true (eqb (get_or above z 0) 1) (kids z c) b)))

      none : {w : ℕ} → Below ws x w → x ≢ w → ((z : ℕ) → Child ws w z → ¬ Below ws x z) → ⊥
      none here e u = e refl
      none (down z c b) e u = u z c b

-- a pass along the order that stands at k: those passed are flagged exactly if x is below them
pub record Rising (ws order : List ℕ) (x k : ℕ) (above : List ℕ) : Type 0 where
  pub within : k ≤ types ws
  pub size : length above ≡ 256
  pub done : (j : ℕ) → j < k → Tells (Below ws x (get_or order j 0)) (eqb (get_or above (get_or order j 0) 0) 1)

-- the flag of the type at k is written
rise_at : {ws order : List ℕ} {x k : ℕ} {above : List ℕ} → Accepted ws → BottomUp ws order → Rising ws order x k above → k < types ws → (r : ℕ)
    → Tells (Below ws x (get_or order k 0)) (eqb r 1) → Rising ws order x (k + 1) (set above (get_or order k 0) r)
rise_at {ws} {order} {x} {k} {above} a bottom p h r told = record { within = omega arith; size = length-set above (get_or order k 0) r ∙ p.size; done = λ j l. go j (eq-or-lt_of_le l) }
  where
    go : (j : ℕ) → (suc j ≡ k + 1) ⊎ (suc j < k + 1) → Tells (Below ws x (get_or order j 0)) (eqb (get_or (set above (get_or order k 0) r) (get_or order j 0) 0) 1)
    go j (inl e) =
        let q : j ≡ k = omega arith in
        rw (q, get_or-set_same above (get_or order k 0) r 0 (omega (arith, p.size, (facts a).few, bottom.inside k h))) told
    go j (inr l) = rw (get_or-set_other above (get_or order k 0) (get_or order j 0) r 0 (λ e. omega (arith, bottom.once j k (omega arith) h e))) (p.done j (omega arith))

module _ {ws order : List ℕ} (a : Accepted ws) (bottom : BottomUp ws order) {place : ℕ} (h : place < types ws) where
  -- none that stands before x is flagged
  pub rise_start : Rising ws order (get_or order place 0) (place + 1) (set (replicate 256 0) (get_or order place 0) 1)
  rise_start = rise_at a bottom none h 1 here
    where
      clear : (j : ℕ) → j < types ws → get_or (replicate {A = ℕ} 256 0) (get_or order j 0) 0 ≡ 0
      clear j l = get_or-replicate {A = ℕ} 256 (get_or order j 0) 0 0 (omega (arith, (facts a).few, bottom.inside j l))

      none : Rising ws order (get_or order place 0) place (replicate 256 0)
      none = record {
        within = omega arith;
        size = length-replicate {A = ℕ} 256 0;
        done = λ j l. rw (clear j (omega arith)) (λ b. omega (arith, below_behind bottom h (omega arith) b));
      }

  -- one type more, by the flags of its children
  pub rise_more : {k : ℕ} {above : List ℕ} {r : ℕ} → Rising ws order (get_or order place 0) k above → place < k → k < types ws
      → Joined (length (children_at ws (get_or order k 0))) (children_at ws (get_or order k 0)) above 0 r
      → Rising ws order (get_or order place 0) (k + 1) (set above (get_or order k 0) r)
  rise_more {k} {above} {r} p m l joined = rise_at a bottom p l r (above_join a (bottom.inside k l) (λ e. omega (arith, bottom.once place k h l e)) kids joined)
    where
      kids : (z : ℕ) → Child ws (get_or order k 0) z → Tells (Below ws (get_or order place 0) z) (eqb (get_or above z 0) 1)
      kids z c = let w = bottom.every z c.inside in rw w.2 at (p.done w.0 (bottom.after w.0 k w.1 l (rw w.2 c)))

pub rise_all : {ws order : List ℕ} {x k : ℕ} {above : List ℕ} → BottomUp ws order → Rising ws order x k above → types ws ≤ k → Aboves ws x above
rise_all bottom p l = record { size = p.size; each = λ t h. let w = bottom.every t h in rw w.2 at (p.done w.0 (omega (arith, w.1))) }
