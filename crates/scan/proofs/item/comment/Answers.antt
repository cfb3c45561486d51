-- The two dashes, then the rest.
use Rattle.std.proofs.Common.{Ok, Err}
use Rattle.scan.proofs.Moving.{reads_on}
use Rattle.scan.proofs.Readings.{reads_moves, reads_refused}
use Rattle.scan.proofs.Declared.{dashes_read}
use Rattle.scan.proofs.item.comment.Goals as goal

pub returns-in_err-e : goal.returns-in_err-e
returns-in_err-e c = λ seen. reads_refused c.from_residual.result c.from_residual.ensures.1 (dashes_read seen (Err _) c.in_err-e.ensures)

pub returns : goal.returns
returns c = λ seen. reads_on (reads_moves (dashes_read seen (Ok _) c.in_ok-e.ensures)) (c.remark.ensures seen)
