-- What is known where the completion visits a type, from parents to children, and what it has done there. Assumes nothing.
use Rattle.std.specs.Prelude.{ℕ, ◌<◌, ◌≡◌, List, length, get_or}
use Rattle.table.specs.Steps.Found.{Tells}
use Rattle.table.specs.Words.{types}
use Rattle.table.specs.Rule.{children_at}
use Rattle.table.specs.Privilege.{first_privilege, privileges}
use Rattle.policy.specs.Marks.{Allowed, Policy}
use Rattle.completion.specs.Granted.{Granted}
use Rattle.completion.specs.Steps.Opens.{Opened, PassesOn}
use Rattle.policy.specs.Steps.Writing.{Decision}
use Rattle.completion.specs.Steps.Writing.{is_open, KidsOpened, TypeWritten}

-- a type of a policy with its first privilege, and its flag told
pub record Visited (ws marks : List ℕ) (x first : ℕ) (opened : List ℕ) : Type 0 where
  pub policy : Policy ws marks
  pub type : x < types ws
  pub first_is : first ≡ first_privilege ws x
  pub size : length opened ≡ 256
  pub told : Tells (Opened ws (Allowed marks) x) (is_open opened x)

-- what it opens is passed on to its children, and its own marks are decided
pub record Done (ws marks : List ℕ) (x : ℕ) (opened Opened-after after : List ℕ) : Type 0 where
  pub kids : KidsOpened (PassesOn ws (Allowed marks) x) (children_at ws x) opened Opened-after
  pub own : TypeWritten ws (Granted ws (Allowed marks)) x marks after

-- a number for each type, its first privilege
abbrev pub HasFirsts : List ℕ → List ℕ → Type 0
HasFirsts ws firsts = (x : ℕ) → x < types ws → get_or firsts x 0 ≡ first_privilege ws x

-- V marks, each decided by what is granted
pub record Filled (ws marks new : List ℕ) : Type 0 where
  pub size : length new ≡ privileges ws
  pub each : (p : ℕ) → p < privileges ws → Decision (Granted ws (Allowed marks) p) (get_or new p 0)
