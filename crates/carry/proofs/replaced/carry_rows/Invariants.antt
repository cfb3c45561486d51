-- Where all is alike the replacements are moved at once; else the rows passed are moved. Assumes nothing.
use Rattle.carry.specs.Steps.Scattering.{Scattered}
use Rattle.carry.specs.Steps.Placing.{RowsTo, Replaces}
use Rattle.carry.proofs.replaced.carry_rows.Given as goal

abbrev pub invariant-loop-i : goal.invariant-loop-i
invariant-loop-i l = Scattered (Replaces l.from l.to l.at (RowsTo l.i)) l.marks l.initial.out l.initial.lost l.out l.lost
