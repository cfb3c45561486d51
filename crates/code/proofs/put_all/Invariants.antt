use Rattle.std.proofs.Common.{◌-◌, ◌≤◌, ◌≡◌, List, length}
use Rattle.grammar.specs.Tree.{Declaration}
use Rattle.grammar.specs.Grammar.{Items}
use Rattle.code.specs.Steps.Putting.{Known, AllShallowIn}
use Rattle.code.proofs.Whole.{Done}
use Rattle.code.proofs.put_all.Given as goal

abbrev pub invariant-loop-body : goal.invariant-loop-body
invariant-loop-body l = (l.at ≤ length l.s) × (length l.code.words ≡ 1280) × ((ds : List Declaration) → Items l.s 0 ds → Known l.s l.names.entries l.names.count ds → AllShallowIn ds → Done l.s l.names.entries l.names.count l.at l.code.words l.code.size ds)

abbrev pub decreases-loop-body : goal.decreases-loop-body
decreases-loop-body l = length l.s - l.at
