-- The loop keeps that the names of the declarations so far are entered, and the rest is left. Assumes nothing.
use Rattle.std.proofs.Common.{◌-◌, ◌≤◌, ◌≡◌, List, length}
use Rattle.grammar.specs.Tree.{Declaration}
use Rattle.grammar.specs.Grammar.{Items}
use Rattle.model.specs.Tables.{names_of}
use Rattle.names.proofs.Gone.{Gone}
use Rattle.labels.specs.Labels.{label_of}
use Rattle.labels.specs.Steps.Booked.{Short}
use Rattle.labels.specs.Steps.Entered.{Booking}
use Rattle.labels.proofs.entering.enter_declared.Given as goal

abbrev pub invariant-loop-name : goal.invariant-loop-name
invariant-loop-name l = (l.at ≤ length l.s) × (l.count ≤ l.at) × (length l.names ≡ 8192) × (length l.starts ≡ 257)
    × ((ds : List Declaration) → Items l.s 0 ds → Short ds → length ds ≤ 256 → Gone l.s ds l.count l.at × Booking (label_of (names_of ds)) l.names l.starts l.count)

abbrev pub decreases-loop-name : goal.decreases-loop-name
decreases-loop-name l = length l.s - l.at
