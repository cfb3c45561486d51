-- By the sign that stands there. Assumes nothing.
use Rattle.reading.proofs.Signs.{sign_plus, sign_minus, sign_none}
use Rattle.reading.proofs.matching.sign_at.Goals as goal

pub returns-then-is_some : goal.returns-then-is_some
returns-then-is_some c = sign_plus c.after.result c.if-is_some.ensures c.after.ensures

pub returns-then-is_some-2 : goal.returns-then-is_some-2
returns-then-is_some-2 c = sign_minus c.after-else-is_some.result c.if-is_some-2.ensures c.after-else-is_some.ensures

pub returns-else-is_some-2 : goal.returns-else-is_some-2
returns-else-is_some-2 c = sign_none c.after.result c.after-else-is_some.result c.if-is_some.ensures c.if-is_some-2.ensures c.after.ensures c.after-else-is_some.ensures
