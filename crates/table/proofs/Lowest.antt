-- What a search over places in their order has shown, and what a flag tells. Assumes nothing.
use Prim.Native.Nat.{ℕ, ◌+◌, ◌≤◌, ◌<◌, zero-le}
use mathlib.Core.Path.{◌≡◌, refl}
use mathlib.Core.Logic.{◌≢◌}
use mathlib.Core.Bool.{Bool, true, false, not, ◌&&◌}
use native.Mathlib.Numerals.{add-one-le}
use native.Mathlib.Omega.{arith}
use borrow.Author.Count.{below_more, below_none}
use borrow.Author.Tests.{leb-true, leb-false, eqb-true, eqb-false}
use lib.Dec.{leb, eqb}
use Rattle.table.specs.Lowest.{LowestAt}
use Rattle.table.specs.Steps.Found.{Tells}

-- the search stands at i, and at no place before does Good fail
pub record Passed (Good : ℕ → Type 0) (n i : ℕ) : Type 0 where
  pub within : i ≤ n
  pub before : (k : ℕ) → k < i → Good k

pub passed_start : {Good : ℕ → Type 0} {n : ℕ} → Passed Good n 0
passed_start = record { within = zero-le; before = below_none _ }

module _ {Good : ℕ → Type 0} {n i : ℕ} (p : Passed Good n i) where
  pub passed_more : i < n → Good i → Passed Good n (i + 1)
  passed_more l g = record { within = add-one-le l; before = below_more _ _ p.before g }

  pub passed_hit : i < n → ¬ Good i → LowestAt Good n i
  passed_hit l f = record { within = l; fails = f; before = p.before }

  pub passed_all : n ≤ i → (k : ℕ) → k < n → Good k
  passed_all l k h = p.before k (omega arith)

-- what a flag tells
module _ {P : Type 0} where
  pub told_yes : (r : Bool) → Tells P r → r ≡ true → P
  told_yes r h e = rw e at h

  pub told_no : (r : Bool) → Tells P r → r ≡ false → ¬ P
  told_no r h e = rw e at h

  pub told_true : (r : Bool) → Tells P r → P → r ≡ true
  told_true true h p = refl
  told_true false h p = absurd (h p)

  pub tells_as : {Q : Type 0} → (P → Q) → (Q → P) → (r : Bool) → Tells P r → Tells Q r
  tells_as f g true h = f h
  tells_as f g false h = λ q. h (g q)

  pub tells_by : (r : Bool) → (r ≡ true → P) → (r ≡ false → ¬ P) → Tells P r
  tells_by true f g = f refl
  tells_by false f g = g refl

-- the flags of the three comparisons
pub tells_eq : (a b : ℕ) → Tells (a ≡ b) (eqb a b)
tells_eq a b = tells_by (eqb a b) (eqb-true a b) (eqb-false a b)

pub tells_le : (a b : ℕ) → Tells (a ≤ b) (leb a b)
tells_le a b = tells_by (leb a b) (leb-true a b) (λ e l. let z = leb-false a b e in omega arith)

-- the same, for what the comparison comes to
pub tells_eq_as : (Q : Type 0) (a b : ℕ) → (a ≡ b → Q) → (Q → a ≡ b) → Tells Q (eqb a b)
tells_eq_as Q a b f g = tells_as f g (eqb a b) (tells_eq a b)

pub tells_le_as : (Q : Type 0) (a b : ℕ) → (a ≤ b → Q) → (Q → a ≤ b) → Tells Q (leb a b)
tells_le_as Q a b f g = tells_as f g (leb a b) (tells_le a b)

pub tells_ne_as : (Q : Type 0) (a b : ℕ) → (a ≢ b → Q) → (Q → a ≢ b) → Tells Q (not (eqb a b))
tells_ne_as Q a b f g = go (eqb a b) (tells_eq a b)
  where
    go : (r : Bool) → Tells (a ≡ b) r → Tells Q (not r)
    go true e = λ q. g q e
    go false d = f d

-- a flag for all places before i, and one for i
pub tells_all_more : (Good : ℕ → Type 0) (i : ℕ) (r b : Bool) → Tells ((k : ℕ) → k < i → Good k) r → Tells (Good i) b
    → Tells ((k : ℕ) → k < i + 1 → Good k) (r && b)
tells_all_more Good i true true h g = below_more _ _ h g
tells_all_more Good i true false h g = λ all. g (all i (omega arith))
tells_all_more Good i false b h g = λ all. h (λ k l. all k (omega arith))
