-- What judging a policy answers, by what the policy means, but in format 2: specs/SameKind has what is otherwise there. Assumes nothing.
use Rattle.std.specs.Prelude.{ℕ, ◌≡◌, List}
use Rattle.table.specs.Privilege.{Belongs, Edit, privilege_of}
use Rattle.policy.specs.Marks.{Allowed, Forbidden, NoPolicy, Policy}
use Rattle.verdict.specs.Breaches.{no_breach, FirstBreach}
use Rattle.verdict.specs.Answers.{refusal, verdict_of}
use Rattle.verdict.specs.declared.Answer.{Answer}
use Rattle.verdict.specs.declared.Breach.{Breach}
use Rattle.meaning.specs.Trees.{Forest, Same}
use Rattle.meaning.specs.Consistent.{Imitates, Consistent}

-- an allowed edit at type x
pub record AllowedAt (ws marks : List ℕ) (x p : ℕ) : Type 0 where
  pub allowed : Allowed marks p
  pub belongs : Belongs ws p x

-- allowed edits at the breach's type imitate the edit of its privilege, which is forbidden
pub record BreachImitation (ws : List ℕ) (R : Forest → Forest → Type 0) (marks : List ℕ) (b : Breach) : Type 0 where
  pub edit : Edit
  pub is : privilege_of ws edit ≡ b.privilege
  pub forbidden : Forbidden marks b.privilege
  pub imitates : Imitates ws R (AllowedAt ws marks b.element) edit

pub data MeaningAnswer (ws marks : List ℕ) (a : Answer) : Type 0 where
  refused : {number place : ℕ} → NoPolicy ws marks number place → a ≡ refusal number place → MeaningAnswer ws marks a
  -- no breach: allowed edits imitate no forbidden one
  consistent : Policy ws marks → Consistent ws marks → a ≡ verdict_of no_breach → MeaningAnswer ws marks a
  -- the first breach: they imitate the forbidden one that it names
  imitated : {b : Breach} → Policy ws marks → FirstBreach ws marks b → BreachImitation ws Same marks b → a ≡ verdict_of b → MeaningAnswer ws marks a
