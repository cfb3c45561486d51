-- The loop keeps that the declarations so far are counted, their names listed, and the rest is left. Assumes nothing.
use Rattle.std.proofs.Common.{◌-◌, ◌≤◌, List, length}
use Rattle.grammar.specs.Tree.{Declaration}
use Rattle.grammar.specs.Grammar.{Items}
use Rattle.names.specs.Steps.Names.{Listed}
use Rattle.names.proofs.Gone.{Gone}
use Rattle.names.proofs.collect.Given as goal

abbrev pub invariant-loop-name : goal.invariant-loop-name
invariant-loop-name l = (l.at ≤ length l.s) × (l.names.count ≤ l.at)
    × ((ds : List Declaration) → Items l.s 0 ds → length l.s ≤ 65536 → Gone l.s ds l.names.count l.at × (l.names.count ≤ 256 → Listed l.s ds l.names.entries l.names.count))

abbrev pub decreases-loop-name : goal.decreases-loop-name
decreases-loop-name l = length l.s - l.at
