-- Marks as two bit maps (document 02, order 7): "an allowed map and a forbidden map, privilege 0 in the lowest bit of byte 0"; the marks they spell, the
-- maps of marks, and what is wrong with a pair of maps. Assumes nothing.
use Rattle.std.specs.Prelude.{ℕ, ◌+◌, ◌*◌, ◌/◌, ◌%◌, ◌^◌, ◌≤◌, ◌<◌, ◌≡◌, ◌≢◌, ◌⊎◌, cond, List, ◌++◌, eqb, length, get_or, drop}
use Rattle.table.specs.Lowest.{LowestAt}
use Rattle.table.specs.Privilege.{privileges}
use Rattle.table.specs.Check.{Accepted, TableAnswer}
use Rattle.policy.specs.Tabulated.{tabulate}

-- an allowed map and a forbidden map
pub record Maps : Type 0 where
  pub allowed : List ℕ
  pub forbidden : List ℕ

abbrev pub maps : List ℕ → List ℕ → Maps
maps a f = record { allowed = a; forbidden = f }

-- the bit of privilege p, 1 if it is set and else 0; behind the map all are 0
abbrev pub bit_of : List ℕ → ℕ → ℕ
bit_of map p = get_or map (p / 8) 0 / 2 ^ (p % 8) % 2

abbrev pub IsSet : List ℕ → ℕ → Type 0
IsSet map p = bit_of map p ≡ 1

-- the mark of privilege p: 1 allowed, 2 forbidden, 0 neither. Both would be 3, which is no mark
abbrev pub mark_of : Maps → ℕ → ℕ
mark_of m p = bit_of m.allowed p + 2 * bit_of m.forbidden p

-- the marks that the maps of v privileges spell
abbrev pub marks_of : ℕ → Maps → List ℕ
marks_of v m = tabulate v (mark_of m)

-- "V/8 bytes, rounded up"
abbrev pub bytes_for : ℕ → ℕ
bytes_for v = (v + 7) / 8

-- 1 if privilege p has the mark, else 0
abbrev pub is_mark : ℕ → List ℕ → ℕ → ℕ
is_mark mark marks p = cond (eqb (get_or marks p 0) mark) 1 0

-- the byte of eight bits, the first the lowest
abbrev pub byte_of : (ℕ → ℕ) → ℕ
byte_of b = b 0 + 2 * b 1 + 4 * b 2 + 8 * b 3 + 16 * b 4 + 32 * b 5 + 64 * b 6 + 128 * b 7

-- the map of one mark, its spare bits 0; and the maps of marks
abbrev pub map_of : ℕ → List ℕ → List ℕ
map_of mark marks = tabulate (bytes_for (length marks)) (λ k. byte_of (λ j. is_mark mark marks (8 * k + j)))

abbrev pub maps_of : List ℕ → Maps
maps_of marks = maps (map_of 1 marks) (map_of 2 marks)

-- both maps have the bytes for v privileges
pub record Sized (v : ℕ) (m : Maps) : Type 0 where
  pub allowed : length m.allowed ≡ bytes_for v
  pub forbidden : length m.forbidden ≡ bytes_for v

-- not both bits of privilege p are set
abbrev pub Apart : Maps → ℕ → Type 0
Apart m p = ¬ (IsSet m.allowed p × IsSet m.forbidden p)

-- a spare bit is set, one behind those of v privileges
pub record Spare (v : ℕ) (map : List ℕ) : Type 0 where
  pub at : ℕ
  pub behind : v ≤ at
  pub is : IsSet map at

-- a pair of maps for v privileges
pub record Paired (v : ℕ) (m : Maps) : Type 0 where
  pub sized : Sized v m
  pub apart : (p : ℕ) → p < v → Apart m p
  pub clear : ¬ (Spare v m.allowed ⊎ Spare v m.forbidden)

-- what is wrong with a pair: "a map not V/8 bytes, rounded up", "both bits set, with the privilege", "a spare bit set in either map, place 0", in that order
-- and each by its number
pub data Unpaired (off both spare v : ℕ) (m : Maps) (number place : ℕ) : Type 0 where
  length_off : ¬ Sized v m → number ≡ off → place ≡ 0 → Unpaired off both spare v m number place
  both_set : Sized v m → LowestAt (Apart m) v place → number ≡ both → Unpaired off both spare v m number place
  spare_set : Sized v m → ((p : ℕ) → p < v → Apart m p) → Spare v m.allowed ⊎ Spare v m.forbidden → number ≡ spare → place ≡ 0
      → Unpaired off both spare v m number place

-- a table and a policy for it, as two maps
pub record MapPolicy (ws : List ℕ) (m : Maps) : Type 0 where
  pub accepted : Accepted ws
  pub paired : Paired (privileges ws) m

-- why there is none: the table's numbers, and then 10, 23 or 24
pub data NoMaps (ws : List ℕ) (m : Maps) (number place : ℕ) : Type 0 where
  table : number ≢ 0 → TableAnswer ws number place → NoMaps ws m number place
  pair : Accepted ws → Unpaired 10 23 24 (privileges ws) m number place → NoMaps ws m number place

-- the marks that the maps spell for a table
abbrev pub marks_for : List ℕ → Maps → List ℕ
marks_for ws m = marks_of (privileges ws) m

-- both result maps have room for v privileges
pub record Roomy (v : ℕ) (out : Maps) : Type 0 where
  pub allowed : bytes_for v ≤ length out.allowed
  pub forbidden : bytes_for v ≤ length out.forbidden

-- the maps n at the front, and the rest of each as it was
abbrev pub before : Maps → Maps → Maps
before n out = maps (n.allowed ++ drop (length n.allowed) out.allowed) (n.forbidden ++ drop (length n.forbidden) out.forbidden)
