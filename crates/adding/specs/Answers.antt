-- What adding two sheets answers, and what the lent counts hold afterwards. Document 02 has no numbers for it: 12 is as for the sheet itself, and 29 and 30
-- are chosen here (docs/DECISIONS.md). Assumes nothing.
use Rattle.std.specs.Prelude.{ℕ, ◌+◌, ◌*◌, ◌≤◌, ◌<◌, ◌≡◌, ◌≢◌, List, [], ◌∷◌, length, get_or}
use Rattle.table.specs.Lowest.{LowestAt}
use Rattle.table.specs.Privilege.{privileges}
use Rattle.table.specs.Check.{Accepted, TableAnswer}
use Rattle.sheet.specs.Answers.{refusal}
use Rattle.sheet.specs.declared.Sheet.{Sheet}
use Rattle.adding.specs.Sums.{SumOf, SumHeld}

-- both runs hold three numbers for each of v privileges
pub record Whole (v : ℕ) (counts more : List ℕ) : Type 0 where
  pub own : 3 * v ≤ length counts
  pub other : 3 * v ≤ length more

-- sheet k of the two, which are 0 and 1, was not refused itself
abbrev pub DoneAt : Sheet → Sheet → ℕ → Type 0
DoneAt s t k = get_or (s.number ∷ t.number ∷ []) k 0 ≡ 0

abbrev pub HeldAt : List ℕ → Sheet → List ℕ → Sheet → List ℕ → ℕ → Type 0
HeldAt ws s counts t more p = SumHeld (privileges ws) s.figures t.figures counts more p

-- the table's numbers; 12 if either run is short; 29 if a sheet was refused itself; 30 if 32 bits do not hold a sum
pub data NoSum (ws : List ℕ) (s : Sheet) (counts : List ℕ) (t : Sheet) (more : List ℕ) (number place : ℕ) : Type 0 where
  table : number ≢ 0 → TableAnswer ws number place → NoSum ws s counts t more number place
  short : Accepted ws → ¬ Whole (privileges ws) counts more → number ≡ 12 → place ≡ 0 → NoSum ws s counts t more number place
  undone : Accepted ws → Whole (privileges ws) counts more → number ≡ 29 → LowestAt (DoneAt s t) 2 place → NoSum ws s counts t more number place
  over : Accepted ws → Whole (privileges ws) counts more → ((k : ℕ) → k < 2 → DoneAt s t k) → number ≡ 30
      → LowestAt (HeldAt ws s counts t more) (privileges ws + 1) place → NoSum ws s counts t more number place

-- counts is what was lent, after what it holds then
pub data AddAnswer (ws : List ℕ) (s : Sheet) (counts : List ℕ) (t : Sheet) (more : List ℕ) (sum : Sheet) (after : List ℕ) : Type 0 where
  refused : {number place : ℕ} → NoSum ws s counts t more number place → sum ≡ refusal number place → after ≡ counts
      → AddAnswer ws s counts t more sum after
  done : Accepted ws → Whole (privileges ws) counts more → ((k : ℕ) → k < 2 → DoneAt s t k) → ((p : ℕ) → p < privileges ws + 1 → HeldAt ws s counts t more p)
      → sum.number ≡ 0 → sum.place ≡ 0 → SumOf ws s counts t more sum after → AddAnswer ws s counts t more sum after
