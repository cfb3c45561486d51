-- The number and the place of a refusal, and of what a call answers: "each answer has a number and a place". A table's checks have their own numbers
-- (Check). Assumes nothing.
use Rattle.std.specs.Prelude.{ℕ, ◌+◌, Result, Ok, Err}
use Rattle.table.specs.declared.refusal.Refusal.{Refusal}
use Rattle.table.specs.declared.refusal.Refusal.TheVariants.{Table, NewTable, MarksLength, NoPrivilege, Mark, ResultLength, ProposedLength, ProposedMark, ProposedSpareBit, Change, NumbersLength, NewNumber, NoText, TooLarge, Misnamed, BothSet, SpareBit, NoLine, NotAbove, RefusedSheet, SumTooLarge}
use Rattle.table.specs.Check as check

abbrev pub number_of : Refusal → ℕ
number_of (Table c _) = check.number_of c
number_of (NewTable c _) = 100 + check.number_of c
number_of MarksLength = 10
number_of NoPrivilege = 10
number_of (Mark _) = 11
number_of ResultLength = 12
number_of ProposedLength = 13
number_of (ProposedMark _) = 14
number_of ProposedSpareBit = 14
number_of (Change _) = 15
number_of NumbersLength = 17
number_of (NewNumber _) = 18
number_of (NoText _) = 20
number_of (TooLarge _) = 21
number_of (Misnamed _) = 22
number_of (BothSet _) = 23
number_of SpareBit = 24
number_of (NoLine _) = 25
number_of (NotAbove _) = 26
number_of (RefusedSheet _) = 29
number_of (SumTooLarge _) = 30

-- 0 where none is named
abbrev pub place_of : Refusal → ℕ
place_of (Table _ place) = place
place_of (NewTable _ place) = place
place_of MarksLength = 0
place_of NoPrivilege = 0
place_of (Mark p) = p
place_of ResultLength = 0
place_of ProposedLength = 0
place_of (ProposedMark p) = p
place_of ProposedSpareBit = 0
place_of (Change p) = p
place_of NumbersLength = 0
place_of (NewNumber t) = t
place_of (NoText k) = k
place_of (TooLarge k) = k
place_of (Misnamed k) = k
place_of (BothSet p) = p
place_of SpareBit = 0
place_of (NoLine k) = k
place_of (NotAbove k) = k
place_of (RefusedSheet k) = k
place_of (SumTooLarge p) = p

-- 0 is done
abbrev pub number_in : {A : Type 0} → Result A Refusal → ℕ
number_in (Ok _) = 0
number_in (Err r) = number_of r

-- what is done has the place that it gives
abbrev pub place_in : Result ℕ Refusal → ℕ
place_in (Ok place) = place
place_in (Err r) = place_of r

-- or 0
abbrev pub no_place_in : {A : Type 0} → Result A Refusal → ℕ
no_place_in (Ok _) = 0
no_place_in (Err r) = place_of r
