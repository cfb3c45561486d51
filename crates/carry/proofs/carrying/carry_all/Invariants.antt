-- The types passed are moved, and `first` is the first privilege of the next. Assumes nothing.
use Rattle.std.proofs.Common.{◌≡◌}
use Rattle.table.specs.Privilege.{first_privilege}
use Rattle.carry.specs.Steps.Scattering.{Scattered}
use Rattle.carry.specs.Steps.Moving.{BecomesBy, TypesTo}
use Rattle.carry.proofs.carrying.carry_all.Given as goal

abbrev pub invariant-loop-x : goal.invariant-loop-x
invariant-loop-x l = record {
  first : l.first ≡ first_privilege l.revision.words.now l.x;
  moved : Scattered (BecomesBy (TypesTo l.x) l.revision.words.now l.revision.new_words.now l.revision.numbers.now) l.revision.marks.now l.initial.out l.initial.lost l.out l.lost;
}
