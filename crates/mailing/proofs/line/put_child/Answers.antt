-- The label of the child stands behind the verb. Assumes nothing.
use Rattle.std.proofs.Common.{[], ◌∷◌, arith}
use Rattle.labels.specs.Steps.Booked.{label_in}
use Rattle.mailing.proofs.Wording.{fits_more, two_length}
use Rattle.mailing.proofs.line.put_child.Goals as goal

pub put_label-requires : goal.put_label-requires
put_label-requires c = let a = c.args in
    let p = c.requires in
    (p.1, omega (arith, p.0.short, p.2, p.3, c.put_verb-begin.ensures.end, two_length (label_in a.labels.names.now a.labels.starts.now a.x) a.verb.now))

pub returns : goal.returns
returns c = let a = c.args in
    fits_more (label_in a.labels.names.now a.labels.starts.now a.x ∷ a.verb.now ∷ []) c.put_verb-begin.ensures c.put_label.ensures
