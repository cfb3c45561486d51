-- What completing all roles of a show at once answers, and what the lent runs hold afterwards (document 02, order 5). There are as many roles as numbers
-- are lent. Assumes nothing.
use Rattle.std.specs.Prelude.{ℕ, ◌*◌, ◌≤◌, ◌<◌, ◌≡◌, List, length, get_or, drop}
use Rattle.table.specs.Privilege.{privileges}
use Rattle.table.specs.Check.{Accepted}
use Rattle.policy.specs.Roles.{stretch, NoRoles}
use Rattle.verdict.specs.Answers.{refusal}
use Rattle.verdict.specs.Answers as answers
use Rattle.verdict.specs.declared.Answer.{Answer}
use Rattle.completion.specs.Answers.{CompleteAnswer}

-- "each is what the single call gives", by its number, on the role's own marks and its own stretch of the result
pub record RoleAnswer (ws marks out : List ℕ) (number : ℕ) (after : List ℕ) : Type 0 where
  pub answer : Answer
  pub single : CompleteAnswer ws marks out answer after
  pub is : number ≡ answer.number

-- "a word, the number, for each role", and "each role's completed marks go into that role's own stretch of the lent result"; behind the stretches all is
-- as it was
pub record RolesCompleted (ws marks numbers out numbers_after after : List ℕ) : Type 0 where
  pub numbers_size : length numbers_after ≡ length numbers
  pub size : length after ≡ length out
  pub role : (r : ℕ) → r < length numbers → RoleAnswer ws (stretch ws r marks) (stretch ws r out) (get_or numbers_after r 0) (stretch ws r after)
  pub rest : drop (length numbers * privileges ws) after ≡ drop (length numbers * privileges ws) out

-- out is what was lent as the result, after what it holds then
pub data RolesAnswer (ws marks numbers out : List ℕ) (a : Answer) (numbers_after after : List ℕ) : Type 0 where
  refused : {number place : ℕ} → NoRoles ws (length numbers) marks (length out) (length numbers * privileges ws) number place → a ≡ refusal number place
      → numbers_after ≡ numbers → after ≡ out → RolesAnswer ws marks numbers out a numbers_after after
  done : Accepted ws → length marks ≡ length numbers * privileges ws → length numbers * privileges ws ≤ length out → a ≡ answers.done 0
      → RolesCompleted ws marks numbers out numbers_after after → RolesAnswer ws marks numbers out a numbers_after after
