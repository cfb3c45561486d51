-- Tests of child, below, on a cycle, and reached from the root. Assumes nothing.
use Prim.Native.Nat.{ℕ, zero, suc, ◌≤◌, ◌<◌}
use mathlib.Core.Path.{◌≡◌, refl, subst, subst⁻¹}
use mathlib.Core.Logic.{◌⊎◌, inl, inr}
use mathlib.Core.Bool.{Bool, true, false}
use mathlib.Core.List.{List}
use native.Mathlib.Omega.{arith}
use lib.Dec.{T}
use lib.ListN.{length}
use Rattle.table.specs.Words.{types, root}
use Rattle.table.specs.Rule.{children_at, child_at, Child}
use Rattle.table.specs.Plus.{Plus, last, next}
use Rattle.table.specs.Below.{Below, here, down, OnCycle, OffCycle, FromRoot}
use Rattle.table.proofs.Belows.{below_trans}
use Rattle.table.proofs.Test.{Test, is_less, is_equal, both, either, fails, means, some, every}
use Rattle.table.proofs.Walks.{closure}

-- below: the same type, or reached by one or more steps to a child
pub below_out : {ws : List ℕ} {x y : ℕ} → (x ≡ y) ⊎ Plus (Child ws) y x → Below ws x y
below_out {ws} {x} (inl e) = subst (Below ws x) e here
below_out {x = x} (inr (last c)) = down x c here
below_out (inr (next z c p)) = down z c (below_out (inr p))

pub below_into : {ws : List ℕ} {x y : ℕ} → Below ws x y → (x ≡ y) ⊎ Plus (Child ws) y x
below_into here = inl refl
below_into {ws} {x} {y} (down z c b) = elim (below_into b) [ inl e ↦ inr (last (subst⁻¹ (Child ws y) e c)) | inr p ↦ inr (next z c p) ]

-- on a cycle: reached from itself by one or more steps
pub cycle_out : {ws : List ℕ} {t : ℕ} → Plus (Child ws) t t → OnCycle ws t
cycle_out {t = t} (last c) = record { child = t; is_child = c; below = here }
cycle_out (next z c p) = record { child = z; is_child = c; below = below_out (inr p) }

pub cycle_into : {ws : List ℕ} {t : ℕ} → OnCycle ws t → Plus (Child ws) t t
cycle_into {ws} {t} o = elim (below_into o.below) [ inl e ↦ last (subst⁻¹ (Child ws t) e o.is_child) | inr p ↦ next o.child o.is_child p ]

-- a shorter test where it says yes, else the other
abbrev by : {S P : Type 0} → Test S → (S → P) → Test P → Test P
by {S} {P} s f p = record {
  run = elim s.run [ true ↦ true | false ↦ p.run ];
  out = λ h. yes_out s.run s.out h;
  into = λ x. no_into s.run x;
}
  where
    yes_out : (b : Bool) → (T b → S) → T (elim b [ true ↦ true | false ↦ p.run ]) → P
    yes_out true g h = f (g tt)
    yes_out false g h = p.out h

    no_into : (b : Bool) → P → T (elim b [ true ↦ true | false ↦ p.run ])
    no_into true x = tt
    no_into false x = p.into x

-- a table of the numbering that was asked before: children above their parents, and all but the root 0 somebody's child. Walks would take long where
-- many ways lead to a type
pub record Rising (ws : List ℕ) : Type 0 where
  pub above : (y : ℕ) → y < types ws → (i : ℕ) → i < length (children_at ws y) → y < child_at ws y i
  pub zero_root : root ws ≡ 0
  pub parent : (x : ℕ) → x < types ws → (x ≡ 0) ⊎ ((y : ℕ) × (y < types ws) × Child ws y x)

child_above : {ws : List ℕ} {y x : ℕ} → Rising ws → Child ws y x → y < x
child_above {y = y} r c = rw c.is at (r.above y c.parent c.at c.within)

rising_below : {ws : List ℕ} {x y : ℕ} → Rising ws → Below ws x y → y ≤ x
rising_below r here = omega arith
rising_below r (down z c b) = omega (arith, child_above r c, rising_below r b)

pub rising_off : {ws : List ℕ} {t : ℕ} → Rising ws → OffCycle ws t
rising_off r o = absurd (omega (arith, child_above r o.is_child, rising_below r o.below))

pub rising_reached : {ws : List ℕ} → Rising ws → (n x : ℕ) → x < n → x < types ws → FromRoot ws x
rising_reached r zero x h l = absurd (omega arith)
rising_reached {ws} r (suc n) x h l = go (r.parent x l) (λ y k m. rising_reached r n y k m)
  where
    go : (x ≡ 0) ⊎ ((y : ℕ) × (y < types ws) × Child ws y x) → ((y : ℕ) → y < n → y < types ws → FromRoot ws y) → FromRoot ws x
    go (inl e) again = rw (e, r.zero_root) here
    go (inr (y, m, c)) again = below_trans (down x c here) (again y (omega (arith, child_above r c)) m)

module _ (ws : List ℕ) where
  abbrev child : (y x : ℕ) → Test (Child ws y x)
  child y x = means (λ h. record { parent = h.0; inside = h.1.0; at = h.1.1.0; within = h.1.1.1; is = h.1.1.2 })
      (λ h. (h.parent, (h.inside, (h.at, h.within, h.is))))
      (both (is_less y (types ws)) (both (is_less x (types ws)) (some (length (children_at ws y)) (λ i. is_equal (child_at ws y i) x))))

  abbrev rising : Test (Rising ws)
  rising = means (λ h. record { above = h.0; zero_root = h.1.0; parent = h.1.1 }) (λ h. (h.above, (h.zero_root, h.parent)))
      (both (every (types ws) (λ y. every (length (children_at ws y)) (λ i. is_less y (child_at ws y i))))
      (both (is_equal (root ws) 0) (every (types ws) (λ x. either (is_equal x 0) (some (types ws) (λ y. child y x))))))

  abbrev pub below : (x y : ℕ) → Test (Below ws x y)
  below x y = means below_out below_into (either (is_equal x y) (closure (types ws) (λ a b c. c.inside) child y x))

  abbrev pub on_cycle : (t : ℕ) → Test (OnCycle ws t)
  on_cycle t = means cycle_out cycle_into (closure (types ws) (λ a b c. c.inside) child t t)

  abbrev pub off_cycle : (t : ℕ) → Test (OffCycle ws t)
  off_cycle t = by rising rising_off (fails (on_cycle t))

  abbrev pub reached : (t : ℕ) → Test (FromRoot ws t)
  reached t = by (both (is_less t (types ws)) rising) (λ h. rising_reached h.1 (suc t) t (omega arith) h.0) (below t (root ws))
