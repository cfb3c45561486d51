-- One byte of the name more.
use Rattle.std.proofs.Common.{add-one}
use Rattle.grammar.specs.Bytes.{stop}
use Rattle.scan.proofs.Told.{span_more}
use Rattle.names.proofs.walk.name_end.Goals as goal

pub loop-i-init : goal.loop-i-init
loop-i-init c = stop

pub loop-i-preserved : goal.loop-i-preserved
loop-i-preserved c = rw (add-one c.loop-i.i) (span_more c.loop-i.invariant c.if-not-is_of.ensures)
