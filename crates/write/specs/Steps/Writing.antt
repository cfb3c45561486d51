-- How rows are written as the records and the child list of a table, whatever they are. Assumes nothing.
use Rattle.std.specs.Prelude.{ℕ, ◌+◌, ◌*◌, ◌%◌, ◌≤◌, ◌<◌, ◌≡◌, List, [], ◌∷◌, ◌++◌, length}
use Rattle.std.proofs.lemmas.List.Edits.{sets}
use Rattle.write.specs.Steps.Reading.{Row}

abbrev pub kids_of_rows : List Row → List ℕ
kids_of_rows [] = []
kids_of_rows (r ∷ rs) = r.kids ++ kids_of_rows rs

-- words are put from a place on, as far as there are places
pub record Puts (out : List ℕ) (i : ℕ) (ws : List ℕ) (out' : List ℕ) : Type 0 where
  pub is : out' ≡ sets out i ws

-- type t's record and its children, the child list beginning at `base`, its first child at index k
unfoldable pub write_row : ℕ → ℕ → ℕ → Row → List ℕ → List ℕ
write_row base t k r out = sets (sets out (8 + 3 * t) (r.kind ∷ length r.kids % 65536 ∷ k % 65536 ∷ [])) (base + k) r.kids

abbrev pub write_rows : ℕ → ℕ → ℕ → List Row → List ℕ → List ℕ
write_rows base t k [] out = out
write_rows base t k (r ∷ rs) out = write_rows base (t + 1) (k + length r.kids) rs (write_row base t k r out)

-- the rows are written from type t and index k on, and the next ones are t' and k'
pub record Wrote (base : ℕ) (rows : List Row) (t k : ℕ) (out : List ℕ) (t' k' : ℕ) (out' : List ℕ) : Type 0 where
  pub is : out' ≡ write_rows base t k rows out
  pub types : t' ≡ t + length rows
  pub kids : k' ≡ k + length (kids_of_rows rows)

-- the next type and index are low, and so is the place of the child list
pub record Low (limit base t k : ℕ) : Type 0 where
  pub base_low : base ≤ 776
  pub types_low : t < limit
  pub kids_low : k < limit

-- what a row is made of: its kind, how many operands its children are, and how many types are made inside, all small
pub record Small (kind n e : ℕ) : Type 0 where
  pub kind_low : kind < 5
  pub operands_few : n < 65536
  pub extra_few : e < 2

pub record Formed (kind n e kind' n' e' : ℕ) : Type 0 where
  pub kind_is : kind' ≡ kind
  pub operands_are : n' ≡ n
  pub extra_is : e' ≡ e
  pub small : Small kind' n' e'

-- the words before the records of a table with so many types and child entries, word 7 as 0
abbrev pub head_of : ℕ → ℕ → List ℕ
head_of types kids = 1 ∷ (8 + 3 * types + kids) ∷ types ∷ 0 ∷ 8 ∷ kids ∷ (8 + 3 * types) ∷ 0 ∷ []
