-- By the mark. Assumes nothing.
use Rattle.runs.proofs.Texts.{fits_as}
use Rattle.mailing.proofs.Wording.{sign_plus, sign_minus}
use Rattle.mailing.proofs.line.put_sign.Goals as goal

pub returns-then-mark-eq1 : goal.returns-then-mark-eq1
returns-then-mark-eq1 c = fits_as (sign_plus _ c.if-mark-eq1.true) c.put.ensures

pub returns : goal.returns
returns c = fits_as (sign_minus _ c.if-mark-eq1.false) c.put-2.ensures
