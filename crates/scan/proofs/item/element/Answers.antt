-- The keyword, then the rest.
use Rattle.std.proofs.Common.{Ok, Err}
use Rattle.scan.proofs.Moving.{reads_on}
use Rattle.scan.proofs.Readings.{reads_moves, reads_refused}
use Rattle.scan.proofs.Declared.{keyword_reads}
use Rattle.scan.proofs.item.element.Goals as goal

pub returns-in_err-e : goal.returns-in_err-e
returns-in_err-e c = reads_refused c.from_residual.result c.from_residual.ensures.1 (keyword_reads (Err _) c.in_err-e.ensures)

pub returns : goal.returns
returns c = reads_on (reads_moves (keyword_reads (Ok _) c.in_ok-e.ensures)) c.from_element.ensures
