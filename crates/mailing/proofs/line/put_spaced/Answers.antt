-- The blank is put, and the part behind it. Assumes nothing.
use Rattle.runs.proofs.Texts.{fits_then}
use Rattle.mailing.proofs.line.put_spaced.Goals as goal

pub returns : goal.returns
returns c = fits_then c.put-begin.ensures c.put.ensures
