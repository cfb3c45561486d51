-- The word, then white space and the end.
use Rattle.std.proofs.Common.{Ok, Err}
use Rattle.scan.proofs.Pieces.{good_blanks, word_reads}
use Rattle.scan.proofs.Items.{good_end}
use Rattle.scan.proofs.Contents.{good_text}
use Rattle.scan.proofs.Readings.{reads_moves, reads_refused}
use Rattle.scan.proofs.Declared.{text_reads}
use Rattle.scan.proofs.item.text.Goals as goal

pub returns-in_err-e : goal.returns-in_err-e
returns-in_err-e c = reads_refused c.from_residual.result c.from_residual.ensures.1 (word_reads (good_blanks (good_text good_end)) (Err _) c.in_err-e.ensures)

pub returns : goal.returns
returns c = text_reads (reads_moves (word_reads (good_blanks (good_text good_end)) (Ok _) c.in_ok-e.ensures)) c.blanks.ensures c.text_end.ensures
