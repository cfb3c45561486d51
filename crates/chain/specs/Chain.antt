-- The chain of a breach (document 02, order 6): "the fewest allowed replacements from i to j, as positions with both ends, and among equally short ones
-- the lowest position at the first difference"; "it has a length, and 0 in unused places". What a step is may be anything. Assumes nothing.
use Rattle.std.specs.Prelude.{ℕ, ◌-◌, ◌≤◌, ◌≡◌, List, [], ◌∷◌, ◌++◌, length, replicate}
use Rattle.table.specs.Lex.{Lex}
use Rattle.chain.specs.declared.Chain.{Chain}

-- one or more steps of R lead from i to j over these positions, both ends among them
pub data Walk (R : ℕ → ℕ → Type 0) : ℕ → ℕ → List ℕ → Type 0 where
  last : {i j : ℕ} → R i j → Walk R i j (i ∷ j ∷ [])
  next : {i j : ℕ} (k : ℕ) {ps : List ℕ} → R i k → Walk R k j ps → Walk R i j (i ∷ ps)

-- they are the fewest, and among equally few the lowest at the first difference
pub record Fewest (R : ℕ → ℕ → Type 0) (i j : ℕ) (ps : List ℕ) : Type 0 where
  pub walk : Walk R i j ps
  pub fewest : (qs : List ℕ) → Walk R i j qs → length ps ≤ length qs
  pub lowest : (qs : List ℕ) → Walk R i j qs → length qs ≡ length ps → ¬ Lex qs ps

-- positions as a chain: how many there are, and then they, with 0 in the unused of 17 places
abbrev pub chain_of : List ℕ → Chain
chain_of ps = record { length = length ps; at = ps ++ replicate (17 - length ps) 0 }

-- the chain from i to j
pub record ShortestChain (R : ℕ → ℕ → Type 0) (i j : ℕ) (c : Chain) : Type 0 where
  pub positions : List ℕ
  pub fewest : Fewest R i j positions
  pub is : c ≡ chain_of positions
