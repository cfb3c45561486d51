-- The pairs passed are moved. Assumes nothing.
use Rattle.carry.specs.Steps.Scattering.{Scattered, Pairs}
use Rattle.carry.proofs.scatter.move_marks.Given as goal

abbrev pub invariant-loop-k : goal.invariant-loop-k
invariant-loop-k l = Scattered (Pairs l.p l.q l.k) l.marks l.initial.out l.initial.lost l.out l.lost
