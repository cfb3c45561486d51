-- EMPTY, ANY or a bracket, or none of them.
use Rattle.scan.proofs.Items.{good_end}
use Rattle.scan.proofs.Contents.{content_stuck}
use Rattle.scan.proofs.Declared.{empty_reads}
use Rattle.scan.proofs.item.content.Goals as goal

pub returns-then-is : goal.returns-then-is
returns-then-is c = empty_reads c.if-is.ensures _ c.word.ensures

pub returns : goal.returns
returns c = content_stuck good_end c.requires c.if-is.ensures c.if-is-2.ensures c.if-is-3.ensures
