-- The loop keeps which entries stand up to the name and which do not. Assumes nothing.
use Rattle.std.proofs.Common.{ℕ, ◌-◌, ◌≤◌, min, List}
use Rattle.grammar.specs.Tree.{Declaration}
use Rattle.names.specs.Steps.Walk.{NameAt}
use Rattle.names.specs.Steps.Names.{Listed, Ranked}
use Rattle.names.proofs.list.NameList.rank.Given as goal

abbrev pub invariant-loop-low : goal.invariant-loop-low
invariant-loop-low l = (l.low ≤ l.high) × (l.high ≤ min l.self.count 256) × ((ds : List Declaration) (n : List ℕ) → Listed l.s ds l.self.entries (min l.self.count 256) → NameAt l.s l.at n → Ranked l.s l.self.entries (min l.self.count 256) n l.low l.high)

abbrev pub decreases-loop-low : goal.decreases-loop-low
decreases-loop-low l = l.high - l.low
