-- The loop keeps that no name of the declarations so far is misnamed, and the rest is left. Assumes nothing.
use Rattle.std.proofs.Common.{◌-◌, ◌≤◌, List, length}
use Rattle.grammar.specs.Tree.{Declaration}
use Rattle.grammar.specs.Grammar.{Items}
use Rattle.names.specs.Steps.Wrong.{Counted}
use Rattle.names.proofs.Gone.{Gone}
use Rattle.names.proofs.Wrongs.{Right}
use Rattle.names.proofs.first_misnamed.Given as goal

abbrev pub invariant-loop-declared : goal.invariant-loop-declared
invariant-loop-declared l = (l.at ≤ length l.s) × (l.m ≤ l.at) × ((ds : List Declaration) → Items l.s 0 ds → Counted l.s ds l.names.entries l.names.count → Gone l.s ds l.m l.at × Right ds l.m)

abbrev pub decreases-loop-declared : goal.decreases-loop-declared
decreases-loop-declared l = length l.s - l.at
