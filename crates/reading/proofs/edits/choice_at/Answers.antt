-- The verb, the kid that goes and the kid that comes are found one behind another, each the only one of its label. Assumes nothing.
use Rattle.std.proofs.Common.{rules}
use Rattle.labels.specs.Steps.Booked.{label_in}
use Rattle.reading.proofs.Editing.{choice_no_verb, choice_no_from, choice_no_to, choice_not, choice_yes}
use Rattle.reading.proofs.edits.choice_at.Goals as goal

pub returns-in_err-verb : goal.returns-in_err-verb
returns-in_err-verb c = let a = c.args in
    rw c.from_residual.ensures (choice_no_verb (label_in a.labels.names.now a.labels.starts.now) a.kids.now c.in_err-verb.ensures)

pub returns-in_err-from : goal.returns-in_err-from
returns-in_err-from c = let a = c.args in
    rw c.from_residual-in_err-from.ensures (choice_no_from (label_in a.labels.names.now a.labels.starts.now) a.kids.now c.in_ok-verb.ensures c.in_err-from.ensures)

pub returns-in_err-to : goal.returns-in_err-to
returns-in_err-to c = let a = c.args in
    rw c.from_residual-in_err-to.ensures
    (choice_no_to (label_in a.labels.names.now a.labels.starts.now) a.kids.now c.in_ok-verb.ensures c.requires.0 c.in_ok-from.ensures c.in_err-to.ensures)

pub returns-then-not-is_replaceable : goal.returns-then-not-is_replaceable
returns-then-not-is_replaceable c = let a = c.args in
    choice_not (label_in a.labels.names.now a.labels.starts.now) a.kids.now c.in_ok-verb.ensures c.requires.0 c.in_ok-from.ensures c.in_ok-to.ensures (search rules)

pub returns : goal.returns
returns c = let a = c.args in
    choice_yes (label_in a.labels.names.now a.labels.starts.now) a.kids.now c.in_ok-verb.ensures c.requires.0 c.in_ok-from.ensures c.in_ok-to.ensures (search rules) c.replacement.ensures
