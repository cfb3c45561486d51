-- The blank is put, and the digits behind it. Assumes nothing.
use Rattle.std.proofs.Common.{arith}
use Rattle.runs.proofs.Texts.{puts_then}
use Rattle.lines.proofs.put_spaced.Goals as goal

pub returns : goal.returns
returns c = puts_then (omega arith) c.put-digits.ensures c.put_number.ensures
