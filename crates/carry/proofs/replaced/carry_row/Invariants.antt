-- A child without a place moves nothing; else the replacements passed are moved. Assumes nothing.
use Rattle.carry.specs.Steps.Scattering.{Scattered}
use Rattle.carry.proofs.Replacing.{MovedTo}
use Rattle.carry.proofs.replaced.carry_row.Given as goal

abbrev pub invariant-loop-j : goal.invariant-loop-j
invariant-loop-j l = Scattered (MovedTo l.old l.new l.at l.j) l.marks l.initial.out l.initial.lost l.out l.lost
