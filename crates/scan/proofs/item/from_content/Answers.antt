-- The content, then white space and the '>'.
use Rattle.scan.proofs.Readings.{reads_moves, reads_refused}
use Rattle.scan.proofs.Declared.{end_reads}
use Rattle.scan.proofs.item.from_content.Goals as goal

pub returns-in_err-e : goal.returns-in_err-e
returns-in_err-e c = reads_refused c.from_residual.result c.from_residual.ensures.1 c.in_err-e.ensures

pub returns : goal.returns
returns c = end_reads (reads_moves c.in_ok-e.ensures) c.blanks.ensures _ c.word.ensures
