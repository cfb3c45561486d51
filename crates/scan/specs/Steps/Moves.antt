-- A reader's answer: a move from one claim to the next, or number 20's or 21's place. Assumes nothing.
use Rattle.std.specs.Prelude.{ℕ, suc, ◌≤◌, ◌<◌, List, length}
use Rattle.scan.specs.Steps.Agree.{Agree}
use Rattle.scan.specs.Steps.Claims.{Mode, plain, limit, Claim}
use Rattle.scan.specs.declared.Stop.{Stop}
use Rattle.std.specs.Prelude.{Result, Ok, Err}
use Rattle.scan.specs.declared.Stop.TheVariants.{Bad, Over}

-- k is the first place that cannot stand
pub record Stuck (P : Claim) (t : List ℕ) (a k : ℕ) : Type 0 where
  pub from : a ≤ k
  pub inside : k ≤ length t
  pub other : List ℕ
  pub alike : Agree t other k
  pub part : P a plain other
  pub cannot : (u : List ℕ) → Agree t u (suc k) → ¬ P a plain u

-- a limit is passed at k
pub record Exceeds (P : Claim) (t : List ℕ) (a k : ℕ) : Type 0 where
  pub from : a ≤ k
  pub size : ℕ
  pub order : k < size
  pub inside : size ≤ length t
  pub other : List ℕ
  pub alike : Agree t other size
  pub part : P a (limit k size) other

-- no limit is passed before k
pub record Free (P : Claim) (t : List ℕ) (a k : ℕ) : Type 0 where
  pub none : (j n : ℕ) → j < k → j < n → (u : List ℕ) → Agree t u n → ¬ P a (limit j n) u

-- from one claim to another, the bytes up to b read
pub record Moves (P Q : Claim) (t : List ℕ) (a b : ℕ) : Type 0 where
  pub from : a ≤ b
  pub inside : b ≤ length t
  pub up : (m : Mode) (u : List ℕ) → Agree t u b → Q b m u → P a m u
  pub down : (m : Mode) (u : List ℕ) → Agree t u (suc b) → P a m u → Q b m u
  pub free : Free P t a b

-- what a reader answers: the claim that is left, or a place
pub data Reads (P Q : Claim) (t : List ℕ) (a : ℕ) : Result ℕ Stop → Type 0 where
  got : {e : ℕ} → Moves P Q t a e → Reads P Q t a (Ok e)
  bad : {k : ℕ} → Stuck P t a k → Free P t a k → Reads P Q t a (Err (Bad k))
  over : {k : ℕ} → Exceeds P t a k → Free P t a k → Reads P Q t a (Err (Over k))
