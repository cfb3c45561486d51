-- The number and the place of what is wrong with a pair of maps: one number for each fault. Assumes nothing.
use Rattle.std.specs.Prelude.{ℕ, Result, Ok, Err}
use Rattle.table.specs.declared.refusal.Refusal.{Refusal}
use Rattle.table.specs.declared.refusal.Refusal.TheVariants as refusal
use Rattle.pairs.specs.declared.check.PairFault.{PairFault}
use Rattle.pairs.specs.declared.check.PairFault.TheVariants.{Length, Both, SpareBit}

-- of a policy's own pair: 10, 23 and 24
abbrev pub refusal_of : PairFault → Refusal
refusal_of Length = refusal.MarksLength
refusal_of (Both p) = refusal.BothSet p
refusal_of SpareBit = refusal.SpareBit

-- of a proposed pair: 13, and 14 for either fault
abbrev pub proposed_refusal : PairFault → Refusal
proposed_refusal Length = refusal.ProposedLength
proposed_refusal (Both p) = refusal.ProposedMark p
proposed_refusal SpareBit = refusal.ProposedSpareBit

-- 0 where nothing is wrong
abbrev pub fault_number : {A : Type 0} → ℕ → ℕ → ℕ → Result A PairFault → ℕ
fault_number off both spare (Ok _) = 0
fault_number off both spare (Err Length) = off
fault_number off both spare (Err (Both p)) = both
fault_number off both spare (Err SpareBit) = spare

abbrev pub fault_place : {A : Type 0} → Result A PairFault → ℕ
fault_place (Ok _) = 0
fault_place (Err Length) = 0
fault_place (Err (Both p)) = p
fault_place (Err SpareBit) = 0
