-- A breach, the stated order of breaches, the first breach and the verdict (document 01, "The three conditions"; document 02, orders 9, 8 and 6).
-- Assumes nothing.
use Rattle.std.specs.Prelude.{ℕ, ◌≤◌, ◌≡◌, List, [], ◌∷◌, replicate}
use Rattle.table.specs.Rule.{IsChoice, IsStar, child_at}
use Rattle.table.specs.HowMany.{HowMany}
use Rattle.table.specs.Lex.{Lex}
use Rattle.table.specs.Privilege.{privileges, exchange_of, replace_of, Replaceable}
use Rattle.policy.specs.Marks.{Allowed, Forbidden}
use Rattle.verdict.specs.Below.{ForbiddenBelow}
use Rattle.policy.specs.Reached.{Step, Reached}
use Rattle.policy.specs.Renewed.{Renewed, Barred}
use Rattle.chain.specs.Chain.{Fewest, chain_of}
use Rattle.chain.specs.declared.Chain.{Chain as Chained}
use Rattle.verdict.specs.Conditions.{Clean}
use Rattle.verdict.specs.declared.Breach.{Breach}
use Rattle.verdict.specs.declared.Spot.{Spot}
use Rattle.verdict.specs.declared.below.Tally.{Tally}
use Rattle.verdict.specs.declared.Condition.{Condition}
use Rattle.verdict.specs.declared.Condition.TheVariants.{None, InsertDelete, Chain, Cycle}

-- the document's number of each condition
abbrev pub condition_number : Condition → ℕ
condition_number None = 0
condition_number InsertDelete = 1
condition_number Chain = 2
condition_number Cycle = 3

-- the chain of a breach: its length and its places
abbrev pub chain_in : Breach → Chained
chain_in b = record { length = b.length; at = b.chain }

-- no breach: five zeros, the count 0, and the empty chain
abbrev pub no_breach : Breach
no_breach = record { condition = None; element = 0; i = 0; j = 0; privilege = 0; forbidden = 0; length = 0; chain = replicate 17 0 }

-- where a breach is: the condition, the type at which it is broken, and the two positions there
abbrev pub spot_of : Breach → Spot
spot_of b = record { condition = b.condition; element = b.element; i = b.i; j = b.j }

-- Privilege p breaks a condition at the spot s. B y p says that p is forbidden below type y; in a policy it is ForbiddenBelow.
-- condition 1: "where the replace itself is forbidden it is condition 1's privilege", whatever is forbidden below the child
pub data StarBroken (ws marks : List ℕ) (B : ℕ → ℕ → Type 0) (x p : ℕ) : Type 0 where
  at_exchange : Barred ws marks x → p ≡ exchange_of ws x → StarBroken ws marks B x p
  at_below : ¬ Barred ws marks x → Renewed ws (Allowed marks) x → B (child_at ws x 0) p → StarBroken ws marks B x p

-- i and j are 0
pub record InsertDeleteBreach (ws marks : List ℕ) (B : ℕ → ℕ → Type 0) (s : Spot) (p : ℕ) : Type 0 where
  pub star : IsStar ws s.element
  pub zero_i : s.i ≡ 0
  pub zero_j : s.j ≡ 0
  pub broken : StarBroken ws marks B s.element p

-- condition 2: p is the forbidden replacement
pub record ChainBreach (ws marks : List ℕ) (s : Spot) (p : ℕ) : Type 0 where
  pub choice : IsChoice ws s.element
  pub reached : Reached ws (Allowed marks) s.element s.i s.j
  pub can : Replaceable ws s.element s.i s.j
  pub is : p ≡ replace_of ws s.element s.i s.j
  pub forbidden : Forbidden marks p

-- condition 3: j is i
pub record CycleBreach (ws marks : List ℕ) (B : ℕ → ℕ → Type 0) (s : Spot) (p : ℕ) : Type 0 where
  pub choice : IsChoice ws s.element
  pub same : s.j ≡ s.i
  pub reached : Reached ws (Allowed marks) s.element s.i s.i
  pub below : B (child_at ws s.element s.i) p

abbrev pub BreachOf : List ℕ → List ℕ → (ℕ → ℕ → Type 0) → Condition → Spot → ℕ → Type 0
BreachOf ws marks B None s p = ⊥
BreachOf ws marks B InsertDelete s p = InsertDeleteBreach ws marks B s p
BreachOf ws marks B Chain s p = ChainBreach ws marks s p
BreachOf ws marks B Cycle s p = CycleBreach ws marks B s p

abbrev pub BreachBy : List ℕ → List ℕ → (ℕ → ℕ → Type 0) → Spot → ℕ → Type 0
BreachBy ws marks B s p = BreachOf ws marks B s.condition s p

-- privilege p breaks the policy at s
abbrev pub IsBreach : List ℕ → List ℕ → Spot → ℕ → Type 0
IsBreach ws marks s p = BreachBy ws marks (ForbiddenBelow ws marks) s p

-- the stated order of spots: lowest type, then condition, then i, then j
abbrev pub key : Spot → List ℕ
key s = s.element ∷ condition_number s.condition ∷ s.i ∷ s.j ∷ []

-- the first spot that is broken; Breaks s p says that p breaks it
pub record FirstSpot (Breaks : Spot → ℕ → Type 0) (s : Spot) : Type 0 where
  pub broken : (p : ℕ) × Breaks s p
  pub first : (t : Spot) (q : ℕ) → Breaks t q → ¬ Lex (key t) (key s)

-- the positions of a breach's chain: "for conditions 2 and 3 the fewest allowed replacements from i to j"; "otherwise the chain is empty"
abbrev pub StepsOf : List ℕ → List ℕ → Condition → Spot → List ℕ → Type 0
StepsOf ws marks None s ps = ps ≡ []
StepsOf ws marks InsertDelete s ps = ps ≡ []
StepsOf ws marks Chain s ps = Fewest (Step ws (Allowed marks) s.element) s.i s.j ps
StepsOf ws marks Cycle s ps = Fewest (Step ws (Allowed marks) s.element) s.i s.j ps

-- the chain of a spot
pub record ChainAt (ws marks : List ℕ) (s : Spot) (c : Chained) : Type 0 where
  pub positions : List ℕ
  pub steps : StepsOf ws marks s.condition s positions
  pub are : c ≡ chain_of positions

-- the first breach: at the first spot, by the lowest privilege, how many privileges break it, and the chain
pub record FirstBreach (ws marks : List ℕ) (b : Breach) : Type 0 where
  pub spot : FirstSpot (IsBreach ws marks) (spot_of b)
  pub breach : IsBreach ws marks (spot_of b) b.privilege
  pub lowest : (q : ℕ) → IsBreach ws marks (spot_of b) q → b.privilege ≤ q
  pub count : HowMany (IsBreach ws marks (spot_of b)) (privileges ws) b.forbidden
  pub chain : ChainAt ws marks (spot_of b) (chain_in b)

-- no breach if no condition is broken, else the first
pub data Verdict (ws marks : List ℕ) (b : Breach) : Type 0 where
  clean : Clean ws marks → b ≡ no_breach → Verdict ws marks b
  broken : FirstBreach ws marks b → Verdict ws marks b

-- The count of a breach as the document says it: "breaches of 1 and 3 pass the count on; condition 2 has count 1"; "where the replace itself is forbidden
-- it is condition 1's privilege, with count 1". Answers y r says that r answers what is forbidden below type y; in a policy it is ForbiddenTally.
pub data PassesOn (ws marks : List ℕ) (Answers : ℕ → Tally → Type 0) (b : Breach) : Type 0 where
  star : b.condition ≡ InsertDelete → ¬ Barred ws marks b.element
      → Answers (child_at ws b.element 0) (record { lowest = b.privilege; count = b.forbidden }) → PassesOn ws marks Answers b
  replace : b.condition ≡ InsertDelete → Barred ws marks b.element → b.privilege ≡ exchange_of ws b.element → b.forbidden ≡ 1
      → PassesOn ws marks Answers b
  chain : b.condition ≡ Chain → b.forbidden ≡ 1 → PassesOn ws marks Answers b
  cycle : b.condition ≡ Cycle → Answers (child_at ws b.element b.i) (record { lowest = b.privilege; count = b.forbidden }) → PassesOn ws marks Answers b
