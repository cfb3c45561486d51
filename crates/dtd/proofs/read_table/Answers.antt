-- The front of the words is the table but for V. Assumes nothing.
use Rattle.std.proofs.Common.{◌+◌, ◌*◌, arith, refl}
use Rattle.dtd.proofs.Passing.{front_is}
use Rattle.dtd.proofs.read_table.Goals as goal

pub finish-requires : goal.finish-requires
finish-requires c = let a = c.requires in
    let b = c.args in
    let w = a.1.1 in
    (a.0, (a.1.0, w.small, front_is (8 + 3 * b.counts.types + b.counts.kids) w c.write_rules.ensures (omega arith) refl))

pub returns : goal.returns
returns c = λ ds w.
    (let b = c.args in
    c.finish.ensures ds w.small (front_is (8 + 3 * b.counts.types + b.counts.kids) w c.write_rules.ensures (omega arith) refl))
