-- What editing one mark answers, and what marks and entries hold afterwards: "the table's and the marks' own numbers, then for the edit 10 for a privilege
-- not below V and 11 for a mark above 2, then 12 if the kept run is short" (document 02, order 11). Assumes nothing.
use Rattle.std.specs.Prelude.{ℕ, ◌*◌, ◌≤◌, ◌<◌, ◌≡◌, List, length, set}
use Rattle.table.specs.Words.{types}
use Rattle.table.specs.Privilege.{privileges}
use Rattle.policy.specs.Marks.{NoPolicy, Policy}
use Rattle.verdict.specs.Answers.{refusal, verdict_of}
use Rattle.verdict.specs.declared.Answer.{Answer}
use Rattle.verdict.specs.declared.Breach.{Breach}
use Rattle.editing.specs.Entries.{Renewed}
use Rattle.verdict.specs.Kept.{KeptVerdict}

-- privilege p of a policy can get this mark, and n words hold the entries
pub record IsEdit (ws marks : List ℕ) (n p mark : ℕ) : Type 0 where
  pub policy : Policy ws marks
  pub privilege : p < privileges ws
  pub legal : mark ≤ 2
  pub room : 2 * types ws ≤ n

-- why not: 1 to 11 and 19 for the table and the marks, then 10, 11 and 12 for the edit
pub data NoEdit (ws marks : List ℕ) (n p mark number place : ℕ) : Type 0 where
  no_policy : NoPolicy ws marks number place → NoEdit ws marks n p mark number place
  no_privilege : Policy ws marks → privileges ws ≤ p → number ≡ 10 → place ≡ 0 → NoEdit ws marks n p mark number place
  no_mark : Policy ws marks → p < privileges ws → 2 < mark → number ≡ 11 → place ≡ p → NoEdit ws marks n p mark number place
  short : Policy ws marks → p < privileges ws → mark ≤ 2 → n < 2 * types ws → number ≡ 12 → place ≡ 0 → NoEdit ws marks n p mark number place

-- marks and kept are what was lent, marks-after and kept-after what they hold then
pub data EditAnswer (ws marks kept : List ℕ) (p mark : ℕ) (a : Answer) (marks-after kept-after : List ℕ) : Type 0 where
  refused : {number place : ℕ} → NoEdit ws marks (length kept) p mark number place → a ≡ refusal number place → marks-after ≡ marks → kept-after ≡ kept
      → EditAnswer ws marks kept p mark a marks-after kept-after
  edited : {b : Breach} → IsEdit ws marks (length kept) p mark → marks-after ≡ set marks p mark → Renewed ws marks-after p kept kept-after
      → KeptVerdict ws marks-after kept-after b → a ≡ verdict_of b → EditAnswer ws marks kept p mark a marks-after kept-after
