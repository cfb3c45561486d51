-- By the cases of what is named. Assumes nothing.
use Rattle.std.proofs.Common.{ap}
use Rattle.runs.proofs.Texts.{fits_as}
use Rattle.labels.specs.Steps.Booked.{label_in}
use Rattle.mailing.specs.Steps.Wording.{blanked}
use Rattle.mailing.proofs.Wording.{parts_text, parts_insert, parts_delete}
use Rattle.mailing.proofs.line.put_parts.Goals as goal

pub returns-in-Text : goal.returns-in-Text
returns-in-Text c = let a = c.args in
    fits_as (ap blanked (parts_text (label_in a.labels.names.now a.labels.starts.now) c.in-Text.is)) c.put_verb.ensures

pub returns-in-Insert : goal.returns-in-Insert
returns-in-Insert c = let a = c.args in
    fits_as (ap blanked (parts_insert (label_in a.labels.names.now a.labels.starts.now) c.in-Insert.is)) c.put_child.ensures

pub returns-in-Delete : goal.returns-in-Delete
returns-in-Delete c = let a = c.args in
    fits_as (ap blanked (parts_delete (label_in a.labels.names.now a.labels.starts.now) c.in-Delete.is)) c.put_child-in-Delete.ensures
