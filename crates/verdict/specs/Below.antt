-- Below (document 01, "The three conditions"): a type X is below Y if X is Y or can be reached from Y by going from types to their children;
-- a privilege is below Y if its type is. "The question 'what is forbidden below this type' must answer the lowest privilege with the count of forbidden
-- privileges, each counted once even if two paths lead there, or 0 and 0" (document 02, order 8). Assumes nothing.
use Rattle.std.specs.Prelude.{ℕ, List}
use Rattle.table.specs.Below.{Below}
use Rattle.table.specs.HowMany.{Tallied}
use Rattle.table.specs.Privilege.{Belongs, privileges}
use Rattle.policy.specs.Marks.{Forbidden}
use Rattle.verdict.specs.declared.below.Tally.{Tally}

-- privilege p is below y
pub record PrivilegeBelow (ws : List ℕ) (p y : ℕ) : Type 0 where
  pub type : ℕ
  pub belongs : Belongs ws p type
  pub below : Below ws type y

-- privilege p is below y and forbidden
pub record ForbiddenBelow (ws marks : List ℕ) (y p : ℕ) : Type 0 where
  pub below : PrivilegeBelow ws p y
  pub forbidden : Forbidden marks p

-- what is forbidden below y
abbrev pub ForbiddenTally : List ℕ → List ℕ → ℕ → Tally → Type 0
ForbiddenTally ws marks y r = Tallied (ForbiddenBelow ws marks y) (privileges ws) r.lowest r.count
