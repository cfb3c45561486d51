-- One byte of the name more.
use Rattle.std.proofs.Common.{add-one, arith}
use Rattle.grammar.specs.Bytes.{stop}
use Rattle.scan.proofs.Told.{span_more}
use Rattle.scan.proofs.piece.name_rest.Goals as goal

pub loop-i-init : goal.loop-i-init
loop-i-init c = (omega arith, rw (add-one c.args.at) stop)

pub loop-i-preserved : goal.loop-i-preserved
loop-i-preserved c = (omega arith, rw (add-one c.loop-i.i) (span_more c.loop-i.invariant.1 c.if-not-is_of.ensures))
