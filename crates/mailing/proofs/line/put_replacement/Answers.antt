-- The label of the child that comes stands behind that of the one that goes. Assumes nothing.
use Rattle.std.proofs.Common.{ℕ, refl, ap, List, [], ◌∷◌, arith}
use Rattle.grammar.specs.Bytes.{ascii}
use Rattle.runs.proofs.Texts.{fits_as}
use Rattle.labels.specs.Steps.Booked.{label_in}
use Rattle.mailing.specs.Steps.Wording.{blanked}
use Rattle.mailing.proofs.Wording.{fits_more, parts_replace, three_length}
use Rattle.mailing.proofs.line.put_replacement.Goals as goal

pub put_label-requires : goal.put_label-requires
put_label-requires c = let a = c.args in
    let p = c.requires in
    let label : ℕ → List ℕ = label_in a.labels.names.now a.labels.starts.now in
    (p.2, omega (arith, p.0.short, p.1.short, p.3, c.put_child-begin.ensures.end, three_length (label a.x) (ascii "replace") (label a.from)))

pub returns : goal.returns
returns c = let a = c.args in
    let label : ℕ → List ℕ = label_in a.labels.names.now a.labels.starts.now in
    fits_as (ap blanked (parts_replace label refl))
    (fits_more (label a.x ∷ ascii "replace" ∷ label a.from ∷ []) c.put_child-begin.ensures c.put_label.ensures)
