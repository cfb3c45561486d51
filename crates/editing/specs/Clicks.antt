-- "After every sequence of edits from a fresh policy (marks and entries 0) the kept entries and the verdict equal those worked out anew from the marks"
-- (document 02, order 11): calls one after another. Laws cite it, and no contract does. Assumes nothing.
use Rattle.std.specs.Prelude.{ℕ, List, [], ◌∷◌}
use Rattle.verdict.specs.declared.Answer.{Answer}
use Rattle.editing.specs.Answer.{EditAnswer}

-- what is asked of one call: a privilege and the mark that it is to get
pub record Click : Type 0 where
  pub privilege : ℕ
  pub mark : ℕ

-- calls on one table, the latest first, each on the marks and entries that the one before it left, and what each answered
pub data Clicked (ws marks kept : List ℕ) : List Click → List Answer → List ℕ → List ℕ → Type 0 where
  none : Clicked ws marks kept [] [] marks kept
  then : {clicks : List Click} {answers : List Answer} {m k after entries : List ℕ} {c : Click} {a : Answer} → Clicked ws marks kept clicks answers m k
      → EditAnswer ws m k c.privilege c.mark a after entries → Clicked ws marks kept (c ∷ clicks) (a ∷ answers) after entries
