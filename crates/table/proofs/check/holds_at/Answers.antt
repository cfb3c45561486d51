-- By the cases of the check, each from what its own function tells. Assumes nothing.
use Rattle.std.proofs.Common.{ℕ, ◌<◌, List, arith}
use Rattle.table.proofs.Children.{tiled, childed, laid_record, tiled_children}
use Rattle.table.specs.Words.{types}
use Rattle.table.specs.Steps.Reading.{HasChildren}
use Rattle.table.specs.Check.{Laid, rank_of}
use Rattle.table.specs.Steps.Flags.{Asked}
use Rattle.table.specs.declared.check.Check.{Check}
use Rattle.table.specs.declared.check.Check.TheVariants.{Layout, Bounds, Twice, Cycle}
use Rattle.table.proofs.check.holds_at.Goals as goal

-- a check behind the second looks at a run that is laid out as a table, and one behind the fifth at one whose children are all there
laid : {ws reached : List ℕ} {check : Check} {p : ℕ} → 2 < rank_of check → Asked ws reached check p → Laid ws
laid h known = known.earlier Layout h 0 (omega arith)

listed : {ws reached : List ℕ} (check : Check) {p : ℕ} → 5 < rank_of check → p < types ws → Asked ws reached check p → HasChildren ws p
listed check h l known = tiled_children (tiled _ check h known.earlier) _ l

pub record_word-requires : goal.record_word-requires
record_word-requires c = let known = rw c.in-Kind.is at c.requires in
    (laid_record (laid (omega arith) known) known.within, omega arith)

pub record_word-requires-in-Count : goal.record_word-requires-in-Count
record_word-requires-in-Count c = let known = rw c.in-Count.is at c.requires in
    (laid_record (laid (omega arith) known) known.within, omega arith)

pub record_word-requires-in-Count-2 : goal.record_word-requires-in-Count-2
record_word-requires-in-Count-2 c = let known = rw c.in-Count.is at c.requires in
    (laid_record (laid (omega arith) known) known.within, omega arith)

pub follows-requires : goal.follows-requires
follows-requires c = let known = rw c.in-Stretch.is at c.requires in
    (laid (omega arith) known, omega (arith, known.within), known.before)

pub children-requires : goal.children-requires
children-requires c = let known = rw c.in-Bounds.is at c.requires in
    listed Bounds (omega arith) known.within known

pub children-requires-in-Twice : goal.children-requires-in-Twice
children-requires-in-Twice c = let known = rw c.in-Twice.is at c.requires in
    listed Twice (omega arith) known.within known

pub is_on_cycle-requires : goal.is_on_cycle-requires
is_on_cycle-requires c = let known = rw c.in-Cycle.is at c.requires in
    (childed Cycle (omega arith) known.earlier, known.within)

pub bounds-reached-p : goal.bounds-reached-p
bounds-reached-p c = let known = rw c.in-Unreached.is at c.requires in
    omega (arith, known.within, (laid (omega arith) known).few)

pub is_counted-requires : goal.is_counted-requires
is_counted-requires c = laid (omega arith) (rw c.in-Total.is at c.requires)
