-- The stretch that the record says, which stands in the run. Assumes nothing.
use Rattle.std.proofs.Common.{sym}
use native.Mathlib.Nat.{add-sub_cancel_left}
use Rattle.table.proofs.Children.{children_counted}
use Rattle.table.proofs.rule.children.Goals as goal

pub returns : goal.returns
returns c = rw (add-sub_cancel_left, c.types.ensures.is, c.record_word.ensures.is, c.record_word-2.ensures.is)
    (sym (children_counted _ _ c.requires.counted))
