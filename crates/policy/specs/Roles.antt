-- Many roles over one table (document 02, orders 5 and 12): their marks one after another, and why a call on them is refused. Assumes nothing.
use Rattle.std.specs.Prelude.{ℕ, ◌*◌, ◌<◌, ◌≡◌, ◌≢◌, List, length, take, drop}
use Rattle.table.specs.Privilege.{privileges}
use Rattle.table.specs.Check.{Accepted, TableAnswer}

-- role r's own stretch of a run: "the roles' marks one after another", V for each
abbrev pub stretch : List ℕ → ℕ → List ℕ → List ℕ
stretch ws r run = take (privileges ws) (drop (r * privileges ws) run)

-- "a table's number stops the whole call; 10 if the marks aren't V for each" role; 12 if the result that is lent is shorter than what is needed
pub data NoRoles (ws : List ℕ) (roles : ℕ) (marks : List ℕ) (lent needed number place : ℕ) : Type 0 where
  table : number ≢ 0 → TableAnswer ws number place → NoRoles ws roles marks lent needed number place
  length_off : Accepted ws → length marks ≢ roles * privileges ws → number ≡ 10 → place ≡ 0 → NoRoles ws roles marks lent needed number place
  short : Accepted ws → length marks ≡ roles * privileges ws → lent < needed → number ≡ 12 → place ≡ 0 → NoRoles ws roles marks lent needed number place
