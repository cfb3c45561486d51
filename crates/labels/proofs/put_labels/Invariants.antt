-- Behind the declared types come the made ones, each entered in its turn. Assumes nothing.
use Rattle.std.proofs.Common.{◌≤◌, ◌≡◌, List, length}
use Rattle.grammar.specs.Tree.{Declaration}
use Rattle.grammar.specs.Grammar.{Items}
use Rattle.model.specs.Tables.{names_of}
use Rattle.labels.specs.Labels.{label_of}
use Rattle.labels.specs.Steps.Booked.{Short}
use Rattle.labels.specs.Steps.Entered.{Booking}
use Rattle.labels.proofs.put_labels.Given as goal

abbrev pub invariant-loop-x : goal.invariant-loop-x
invariant-loop-x l = (length l.names ≡ 8192) × (length l.starts ≡ 257)
    × ((ds : List Declaration) → Items l.s 0 ds → Short ds → length ds ≤ l.e → l.e ≤ 256
    → (length ds ≤ l.x) × (l.x ≤ l.e) × Booking (label_of (names_of ds)) l.names l.starts l.x)
