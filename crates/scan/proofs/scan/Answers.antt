-- The first 65,538 bytes tell it, or the text is too long.
use Rattle.std.proofs.Common.{refl, arith}
use Rattle.scan.proofs.Whole.{scanned, too_long}
use Rattle.scan.proofs.scan.Goals as goal

pub returns-then-place-gt65536 : goal.returns-then-place-gt65536
returns-then-place-gt65536 c = too_long c.args.s.now _ c.min-n.result (omega arith) refl c.items-r.result (omega arith) c.items-r.ensures

pub returns : goal.returns
returns c = scanned c.args.s.now _ c.min-n.result (omega arith) refl c.items-r.result (omega arith) c.items-r.ensures
