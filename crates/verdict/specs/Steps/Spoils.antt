-- Which types have something forbidden of their own, and below them, as it is found and kept: a flag for each type. Assumes nothing.
use Rattle.std.specs.Prelude.{ℕ, ◌≤◌, ◌<◌, ◌≡◌, ◌≢◌, List, length, get_or}
use Rattle.table.specs.Words.{types}
use Rattle.table.specs.Privilege.{Belongs}
use Rattle.policy.specs.Marks.{Forbidden}

-- privilege p is y's own and forbidden
pub record ForbiddenOwn (ws marks : List ℕ) (y p : ℕ) : Type 0 where
  pub belongs : Belongs ws p y
  pub forbidden : Forbidden marks p

-- privilege p stands from one number up to another, and is forbidden
pub record Range (marks : List ℕ) (from until p : ℕ) : Type 0 where
  pub low : from ≤ p
  pub high : p < until
  pub forbidden : Forbidden marks p

-- a flag: 1 where some number has P, else 0
pub data Flag (P : ℕ → Type 0) (r : ℕ) : Type 0 where
  up : (p : ℕ) → P p → r ≡ 1 → Flag P r
  down : ((p : ℕ) → ¬ P p) → r ≡ 0 → Flag P r

-- r is 1 where one of the first n children has the flag 1, else own
pub data Joined (n : ℕ) (kids flags : List ℕ) (own r : ℕ) : Type 0 where
  risen : (i : ℕ) → i < n → get_or flags (get_or kids i 0) 0 ≡ 1 → r ≡ 1 → Joined n kids flags own r
  kept : ((i : ℕ) → i < n → get_or flags (get_or kids i 0) 0 ≢ 1) → r ≡ own → Joined n kids flags own r

-- a flag for each type, whether R has something for it, and those behind the types as they were
pub record Flags (ws : List ℕ) (R : ℕ → ℕ → Type 0) (old new : List ℕ) : Type 0 where
  pub size : length new ≡ 256
  pub each : (x : ℕ) → x < types ws → Flag (R x) (get_or new x 0)
  pub rest : (x : ℕ) → types ws ≤ x → get_or new x 0 ≡ get_or old x 0

-- what the flags tell of type y, whatever the privilege
abbrev pub Flagged : List ℕ → ℕ → ℕ → Type 0
Flagged flags y p = get_or flags y 0 ≡ 1

-- B and C tell of the same types that there is something below them
pub record Agree (ws : List ℕ) (B C : ℕ → ℕ → Type 0) : Type 0 where
  pub onto : (y p : ℕ) → y < types ws → B y p → (q : ℕ) × C y q
  pub back : (y q : ℕ) → y < types ws → C y q → (p : ℕ) × B y p
