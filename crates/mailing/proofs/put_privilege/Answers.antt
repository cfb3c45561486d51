-- An unset privilege has no line; a set one has that of its edit. Assumes nothing.
use Rattle.std.proofs.Common.{ℕ, List, arith, get_or}
use Rattle.table.proofs.Facts.{facts}
use Rattle.table.proofs.Privileges.{belongs_below}
use Rattle.labels.specs.Steps.Booked.{label_in}
use Rattle.listing.proofs.Appending.{line_length}
use Rattle.mailing.proofs.Naming.{names_inside}
use Rattle.mailing.proofs.Wording.{all_brief}
use Rattle.mailing.proofs.Continuing.{edit_line, continues_set}
use Rattle.mailing.proofs.put_privilege.Goals as goal

pub bounds-marks-p : goal.bounds-marks-p
bounds-marks-p c = let p = c.requires in omega (arith, belongs_below p.1, p.0.fit.size)

pub put_line-requires : goal.put_line-requires
put_line-requires c = let a = c.args in
    let p = c.requires in
    let f = facts p.0.accepted in (
      all_brief a.labels.names.now a.labels.starts.now f.few p.0.labelled c.named_at-edit.result (names_inside p.0.accepted c.named_at-edit.ensures),
      omega (arith, p.3, belongs_below p.1, f.privileges_few),
    )

pub returns : goal.returns
returns c = let a = c.args in
    let p = c.requires in
    let edit = c.named_at-edit.ensures in
    let label : ℕ → List ℕ = label_in a.labels.names.now a.labels.starts.now in
    let line = edit_line {p = a.p} label (get_or a.marks.now a.p 0) edit (omega (arith, p.1.from, p.2)) in
    continues_set (λ e. omega arith) line (line_length p.0.accepted p.0.labelled line) c.put_line.ensures
