-- The label is put, and the verb behind it. Assumes nothing.
use Rattle.mailing.proofs.Wording.{fits_two}
use Rattle.mailing.proofs.line.put_verb.Goals as goal

pub returns : goal.returns
returns c = fits_two c.put_label-begin.ensures c.put_spaced.ensures
