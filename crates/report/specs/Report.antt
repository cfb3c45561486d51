-- What the program judge prints (document 01, behind the sample schema): the table's number and place; the verdict; the completion or
-- `none`; the mend. A refused table ends after line 1; refused marks print `marks`, number and place as line 2 and end. Assumes nothing.
use Rattle.std.specs.Prelude.{ℕ, ◌≤◌, ◌<◌, ◌≡◌, ◌≢◌, List, [], ◌∷◌, ◌++◌, length, take}
use Rattle.table.specs.Privilege.{privileges}
use Rattle.table.specs.Check.{Accepted, TableAnswer}
use Rattle.policy.specs.Marks.{Unfit, Policy}
use Rattle.verdict.specs.Breaches.{condition_number, Verdict}
use Rattle.verdict.specs.declared.Breach.{Breach}
use Rattle.completion.specs.Completions.{Completes, LeastCompletion}
use Rattle.mending.specs.Mends.{Mends}
use Rattle.lines.specs.Text.{line}
use Rattle.report.specs.File.{table_of, marks_of}
use Rattle.report.specs.declared.Text.{Text}

-- the words that lines begin with, in ASCII: table, marks, verdict, complete, complete none, mended
abbrev pub table_word : List ℕ
table_word = 116 ∷ 97 ∷ 98 ∷ 108 ∷ 101 ∷ []

abbrev pub marks_word : List ℕ
marks_word = 109 ∷ 97 ∷ 114 ∷ 107 ∷ 115 ∷ []

abbrev pub verdict_word : List ℕ
verdict_word = 118 ∷ 101 ∷ 114 ∷ 100 ∷ 105 ∷ 99 ∷ 116 ∷ []

abbrev pub complete_word : List ℕ
complete_word = 99 ∷ 111 ∷ 109 ∷ 112 ∷ 108 ∷ 101 ∷ 116 ∷ 101 ∷ []

abbrev pub none_words : List ℕ
none_words = complete_word ++ (32 ∷ 110 ∷ 111 ∷ 110 ∷ 101 ∷ [])

abbrev pub mended_word : List ℕ
mended_word = 109 ∷ 101 ∷ 110 ∷ 100 ∷ 101 ∷ 100 ∷ []

-- a refusal or a done check: a word, the number and the place
abbrev pub answer_line : List ℕ → ℕ → ℕ → List ℕ
answer_line word number place = line word (number ∷ place ∷ []) []

-- condition, type, i, j, privilege
abbrev pub five_of : Breach → List ℕ
five_of b = condition_number b.condition ∷ b.element ∷ b.i ∷ b.j ∷ b.privilege ∷ []

-- "the program's verdict line ends with its positions" (document 02, order 6): those of the chain
abbrev pub numbers_of : Breach → List ℕ
numbers_of b = five_of b ++ take b.length b.chain

pub data VerdictLine (ws ms text : List ℕ) : Type 0 where
  judged : {b : Breach} → Verdict ws ms b → text ≡ line verdict_word (numbers_of b) [] → VerdictLine ws ms text

-- `none` exactly if no fully decided policy that keeps the set marks passes, else the least such policy
pub data CompleteLine (ws ms text : List ℕ) : Type 0 where
  none : ((n : List ℕ) → ¬ Completes ws ms n) → text ≡ line none_words [] [] → CompleteLine ws ms text
  given : {n : List ℕ} → LeastCompletion ws ms n → text ≡ line complete_word [] n → CompleteLine ws ms text

pub data MendedLine (ws ms text : List ℕ) : Type 0 where
  mended : {n : List ℕ} {count : ℕ} → Mends ws ms n count → text ≡ line mended_word (count ∷ []) n → MendedLine ws ms text

-- what follows line 1 where the table is accepted
pub data PolicyLines (ws ms text : List ℕ) : Type 0 where
  refused : {number place : ℕ} → Unfit 10 (privileges ws) ms number place → text ≡ answer_line marks_word number place → PolicyLines ws ms text
  judged : {a b c : List ℕ} → Policy ws ms → VerdictLine ws ms a → CompleteLine ws ms b → MendedLine ws ms c → text ≡ a ++ b ++ c
      → PolicyLines ws ms text

-- what is printed for a file
pub data Report (file text : List ℕ) : Type 0 where
  long : 8192 < length file → text ≡ answer_line table_word 2 0 → Report file text
  refused : {number place : ℕ} → length file ≤ 8192 → number ≢ 0 → TableAnswer (table_of file) number place
      → text ≡ answer_line table_word number place → Report file text
  accepted : {rest : List ℕ} → length file ≤ 8192 → Accepted (table_of file) → PolicyLines (table_of file) (marks_of file) rest
      → text ≡ answer_line table_word 0 (privileges (table_of file)) ++ rest → Report file text

-- the first bytes, as many as the size says, are what is printed
pub record Reported (file : List ℕ) (t : Text) : Type 0 where
  pub within : t.size ≤ length t.bytes
  pub is : Report file (take t.size t.bytes)
