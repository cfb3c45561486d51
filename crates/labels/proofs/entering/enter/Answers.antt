-- It is put where the label of x begins, and behind it begins the next. Assumes nothing.
use Rattle.labels.proofs.Bookings.{entered}
use Rattle.labels.proofs.entering.enter.Goals as goal

pub returns : goal.returns
returns c = entered c.told-names c.told-starts c.word_at.ensures.is c.put-end.ensures
