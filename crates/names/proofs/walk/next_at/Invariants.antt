-- The loop keeps that the items from the start on are those from here on. Assumes nothing.
use Rattle.std.proofs.Common.{◌-◌, ◌≤◌, List, length}
use Rattle.grammar.specs.Tree.{Declaration}
use Rattle.grammar.specs.Grammar.{Items}
use Rattle.names.proofs.walk.next_at.Given as goal

abbrev pub invariant-loop-i : goal.invariant-loop-i
invariant-loop-i l = (l.at ≤ l.i) × ((ds : List Declaration) → Items l.s l.at ds → Items l.s l.i ds)

abbrev pub decreases-loop-i : goal.decreases-loop-i
decreases-loop-i l = length l.s - l.i
