-- Squares of 16 rows: written row by row, closed position by position, and what they tell. Assumes nothing.
use Prim.Native.Nat.{ℕ, ◌+◌, ◌≤◌, ◌<◌}
use mathlib.Core.Path.{◌≡◌, refl, sym, ◌∙◌}
use mathlib.Core.Bool.{true≢false}
use mathlib.Core.List.{List}
use native.Mathlib.Numerals.{add-one}
use native.Mathlib.Omega.{arith}
use borrow.Author.Count.{below_none, below_more}
use borrow.Author.Tests.{eq-eqb, ne_eqb}
use lib.Dec.{eqb}
use lib.ListN.{length, get_or, set, length-set}
use lib.Seq.{get_or-set_same, get_or-set_other}
use Rattle.table.specs.Steps.Found.{Tells}
use Rattle.table.specs.Rule.{IsChoice}
use Rattle.table.specs.Privilege.{replace}
use Rattle.table.specs.Steps.Numbering.{NumberedAs}
use Rattle.table.specs.declared.privilege.Numbering.{Numbering}
use Rattle.table.proofs.Lowest.{told_yes, told_true, tells_as, tells_by}
use Rattle.table.proofs.Privileges.{numbered_small, edit_below, replaceable_in, in_replaceable, replace_in_lem}
use Rattle.policy.specs.Marks.{Allowed, Policy}
use Rattle.table.specs.Plus.{Plus}
use Rattle.policy.specs.Reached.{Step}
use Rattle.policy.specs.Steps.Squares.{marked, Marked, Square, StepIn, Flags, on, off, Room, Readable, Joined}
use Rattle.policy.proofs.Closures.{Via, via_more, via_all}

-- the number tells what it is to flag
pub flags_tell : {P : Type 0} {r : ℕ} → Flags P r → Tells P (eqb r 1)
flags_tell {r = r} (on p e) = rw (eq-eqb r 1 e) p
flags_tell {r = r} (off d e) = rw (ne_eqb r 1 (λ q. omega arith)) d

-- rows up to i hold what they should, and the others are as they were
pub record RowsSoFar (Good : ℕ → ℕ → Type 0) (i : ℕ) (old new : List ℕ) : Type 0 where
  pub size : length new ≡ 16
  pub done : (a : ℕ) → a < i → Good a (get_or new a 0)
  pub ahead : (a : ℕ) → i ≤ a → get_or new a 0 ≡ get_or old a 0

pub rows_start : {Good : ℕ → ℕ → Type 0} {old : List ℕ} → length old ≡ 16 → RowsSoFar Good 0 old old
rows_start h = record { size = h; done = below_none _; ahead = λ a l. refl }

pub rows_more : {Good : ℕ → ℕ → Type 0} {i : ℕ} {old new : List ℕ} → RowsSoFar Good i old new → (row : ℕ) → i < 16 → Good i row → RowsSoFar Good (i + 1) old (set new i row)
rows_more {Good} {i} {new = new} s row h good = record {
  size = length-set new i row ∙ s.size;
  done = below_more (λ (a : ℕ). Good a (get_or (set new i row) a 0)) i
      (λ a l. rw (get_or-set_other new i a row 0 (λ e. omega arith)) (s.done a l))
      (rw (get_or-set_same new i row 0 (omega (arith, s.size))) good);
  ahead = λ a l. get_or-set_other new i a row 0 (λ e. omega arith) ∙ s.ahead a (omega arith);
}

-- the square tells the steps over positions below k
pub record ClosedSoFar (n k : ℕ) (square closed : List ℕ) : Type 0 where
  pub size : length closed ≡ 16
  pub tells : (a b : ℕ) → a < n → b < n → Tells (Via (Marked n square) k a b) (marked closed a b)

pub closed_start : {n : ℕ} {square : List ℕ} → length square ≡ 16 → ClosedSoFar n 0 square square
closed_start {n} {square} h = record { size = h; tells = λ a b la lb. tells_by (marked square a b) (λ e. record { from = la; to = lb; is = e }) (λ e m. true≢false (sym m.is ∙ e)) }

module _ {n k : ℕ} {square closed : List ℕ} (s : ClosedSoFar n k square closed) where
  pub closed_more : {newer : List ℕ} → n ≤ 16 → k < n → Joined k closed newer → ClosedSoFar n (k + 1) square newer
  closed_more few h j = record {
    size = j.size;
    tells = λ a b la lb. rw (j.all a (omega arith) b, add-one k) (via_more (Marked n square) k a b (marked closed a b) (marked closed a k) (marked closed k b) (s.tells a b la lb) (s.tells a k la h) (s.tells k b h lb));
  }

  pub closed_all : n ≤ k → Square n (Plus (Marked n square)) closed
  closed_all h = record { size = s.size; tells = λ a b la lb. via_all (Marked n square) k (λ i j m. omega (arith, m.to)) a b (marked closed a b) (s.tells a b la lb) }

-- a square that tells one relation tells the other
pub square_as : {n : ℕ} {R Q : ℕ → ℕ → Type 0} {square : List ℕ} → ((i j : ℕ) → R i j → Q i j) → ((i j : ℕ) → Q i j → R i j) → Square n R square → Square n Q square
square_as {square = square} f g s = record { size = s.size; tells = λ i j li lj. tells_as (f i j) (g i j) (marked square i j) (s.tells i j li lj) }

-- what a square marks is what it tells
module _ {n : ℕ} {R : ℕ → ℕ → Type 0} {square : List ℕ} (s : Square n R square) where
  pub marked_told : (i j : ℕ) → Marked n square i j → R i j
  marked_told i j m = told_yes (marked square i j) (s.tells i j m.from m.to) m.is

  pub told_marked : (i j : ℕ) → i < n → j < n → R i j → Marked n square i j
  told_marked i j li lj r = record { from = li; to = lj; is = told_true (marked square i j) (s.tells i j li lj) r }

-- the steps by the numbering of a choice are its steps
module _ {ws : List ℕ} {x : ℕ} {n : Numbering} (h : NumberedAs ws x n) (c : IsChoice ws x) (marks : List ℕ) where
  pub step_out : (i j : ℕ) → StepIn marks n i j → Step ws (Allowed marks) x i j
  step_out i j s = record { can = in_replaceable h c s.can; allowed = rw (replace_in_lem h i j) at s.is }

  pub step_into : (i j : ℕ) → Step ws (Allowed marks) x i j → StepIn marks n i j
  step_into i j s = record { can = replaceable_in h s.can; is = rw (replace_in_lem h i j) s.allowed }

pub policy_room : {ws marks : List ℕ} {x : ℕ} {n : Numbering} → Policy ws marks → IsChoice ws x → NumberedAs ws x n → Room n marks
policy_room {ws} {x = x} pol choice h = record {
  small = numbered_small h;
  room = λ i j can. rw (replace_in_lem h i j) (omega (arith, pol.fit.size, edit_below ws (replace x i j) (in_replaceable h choice can)));
}

pub policy_readable : {ws marks : List ℕ} {x : ℕ} {n : Numbering} → Policy ws marks → IsChoice ws x → NumberedAs ws x n → Readable n marks
policy_readable pol choice h = record { room = policy_room pol choice h; legal = λ p l. pol.fit.legal p (omega (arith, pol.fit.size)) }
