-- To climb from child to parent more often than there are types comes to one of them twice, and that is a cycle. So where no type is on a cycle, what
-- holds of each type whose children it holds of holds of all types. Assumes nothing.
use Prim.Native.Nat.{ℕ, zero, suc, ◌+◌, ◌≤◌, ◌<◌}
use mathlib.Core.Path.{◌≡◌, sym, ◌∙◌}
use mathlib.Core.Logic.{inl, inr}
use mathlib.Core.List.{List, [], ◌∷◌}
use native.Mathlib.Nat.{eq-or-lt_of_le}
use native.Mathlib.Omega.{arith}
use lib.ListN.{length, get_or}
use Rattle.table.specs.Words.{types}
use Rattle.table.specs.Rule.{Child}
use Rattle.table.specs.Below.{Below, here, down, OnCycle, OffCycle}
use Rattle.table.proofs.Listings.{pigeons, values, value_at}

-- some type is on a cycle
pub record Cyclic (ws : List ℕ) : Type 0 where
  pub type : ℕ
  pub low : type < types ws
  pub cycle : OnCycle ws type

module _ {ws : List ℕ} (climb : ℕ → ℕ) (inside : (k : ℕ) → k < types ws + 1 → climb k < types ws)
    (step : (k : ℕ) → k < types ws → Child ws (climb (suc k)) (climb k)) where
  -- an earlier one is below a later one
  climbed : (j k : ℕ) → j ≤ k → k ≤ types ws → Below ws (climb j) (climb k)
  climbed j zero h l = let z : j ≡ 0 = omega arith in rw z here
  climbed j (suc k) h l = elim (eq-or-lt_of_le h) [
    | inl e ↦ rw e here
    | inr m ↦ down (climb k) (step k (omega arith)) (climbed j k (omega arith) (omega arith))
  ]

  -- twice the same is a cycle
  twice : (j k : ℕ) → j < k → k ≤ types ws → climb j ≡ climb k → OnCycle ws (climb k)
  twice j zero h l e = absurd (omega arith)
  twice j (suc k) h l e = record { child = climb k; is_child = step k (omega arith); below = rw (← e) (climbed j k (omega arith) (omega arith)) }

  pub climb_cyclic : Cyclic ws
  climb_cyclic =
      let m : ℕ = types ws + 1 in
      let at : (k : ℕ) → k < m → get_or (values climb m) k 0 ≡ climb k = value_at climb m in
      let two = pigeons (types ws) (values climb m) (λ k h. rw (at k h) (inside k h)) in
      let same : climb two.first ≡ climb two.second = sym (at two.first (omega (arith, two.ordered, two.low))) ∙ two.same ∙ at two.second two.low in
      record {
        type = climb two.second;
        low = inside two.second two.low;
        cycle = twice two.first two.second two.ordered (omega (arith, two.low)) same;
      }

-- a way down, the type that it has come to first
data Way (ws : List ℕ) : List ℕ → Type 0 where
  start : {x : ℕ} → x < types ws → Way ws (x ∷ [])
  on : {x y : ℕ} {xs : List ℕ} → Child ws y x → Way ws (y ∷ xs) → Way ws (x ∷ y ∷ xs)

way_inside : {ws xs : List ℕ} → Way ws xs → (k : ℕ) → k < length xs → get_or xs k 0 < types ws
way_inside (start l) zero h = l
way_inside (start l) (suc k) h = absurd (omega arith)
way_inside (on c w) zero h = c.inside
way_inside (on c w) (suc k) h = way_inside w k (omega arith)

way_child : {ws xs : List ℕ} → Way ws xs → (k : ℕ) → suc k < length xs → Child ws (get_or xs (suc k) 0) (get_or xs k 0)
way_child (start l) k h = absurd (omega arith)
way_child (on c w) zero h = c
way_child (on c w) (suc k) h = way_child w k (omega arith)

module _ {ws : List ℕ} (free : (x : ℕ) → x < types ws → OffCycle ws x) {P : ℕ → Type 0}
    (up : (x : ℕ) → x < types ws → ((y : ℕ) → Child ws x y → P y) → P x) where
  -- n steps before a way is longer than there are types
  down_from : (n x : ℕ) (xs : List ℕ) → Way ws (x ∷ xs) → types ws < length (x ∷ xs) + n → P x
  down_from zero x xs w h =
      let c = climb_cyclic (λ k. get_or (x ∷ xs) k 0) (λ k l. way_inside w k (omega arith)) (λ k l. way_child w k (omega arith)) in
      absurd (free c.type c.low c.cycle)
  down_from (suc n) x xs w h = up x (way_inside w 0 (omega arith)) (λ y c. down_from n y (x ∷ xs) (on c w) (omega arith))

  -- from the children up
  pub from_children : (x : ℕ) → x < types ws → P x
  from_children x l = down_from (types ws) x [] (start l) (omega arith)
