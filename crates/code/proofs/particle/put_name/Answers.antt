-- The name's number is put, or it does not fit.
use Rattle.std.proofs.Common.{arith}
use Rattle.code.proofs.Particles.{name_put, name_dropped}
use Rattle.code.proofs.particle.put_name.Goals as goal

pub returns-then-code-ge1280 : goal.returns-then-code-ge1280
returns-then-code-ge1280 c = name_dropped c.requires c.name_end-e.ensures (omega arith) c.more-code.ensures

pub returns : goal.returns
returns c = name_put c.requires c.name_end-e.ensures c.number.ensures (λ h. omega (arith, c.min-n.ensures)) c.push.ensures
