-- The types passed have few children, and v is the sum of their privileges. Assumes nothing.
use Rattle.std.proofs.Common.{◌≡◌}
use Rattle.table.specs.Sum.{sum_below}
use Rattle.table.specs.Privilege.{privileges_at}
use Rattle.dtd.specs.Steps.Last.{Few}
use Rattle.dtd.proofs.finish.add_up.Given as goal

abbrev pub invariant-loop-t : goal.invariant-loop-t
invariant-loop-t l = record { sum_is : l.v ≡ sum_below (privileges_at l.words) l.t; few : Few l.words l.t }
