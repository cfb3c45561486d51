-- The sign is put, the parts and the newline. Assumes nothing.
use Rattle.std.proofs.Common.{arith}
use Rattle.labels.specs.Steps.Booked.{label_in}
use Rattle.listing.specs.Line.{parts_of}
use Rattle.mailing.specs.Steps.Naming.{named_by}
use Rattle.mailing.proofs.Wording.{fits_line, sign_length, parts_few}
use Rattle.mailing.proofs.line.put_line.Goals as goal

pub put_parts-parts-requires : goal.put_parts-parts-requires
put_parts-parts-requires c = let p = c.requires in (p.0, omega (arith, p.1, c.put_sign-sign.ensures.end, sign_length c.args.mark))

pub put-requires : goal.put-requires
put-requires c = let a = c.args in
    omega (arith, c.requires.1, c.put_sign-sign.ensures.end, c.put_parts-parts.ensures.end, sign_length a.mark, parts_few a.labels.names.now a.labels.starts.now a.edit c.requires.0)

pub returns : goal.returns
returns c = let a = c.args in
    fits_line (parts_of (label_in a.labels.names.now a.labels.starts.now) (named_by a.edit)) c.put_sign-sign.ensures c.put_parts-parts.ensures c.put.ensures
