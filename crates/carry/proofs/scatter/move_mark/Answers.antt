-- Both results with one place written. Assumes nothing.
use Rattle.carry.proofs.Scattering.{scattered_pair}
use Rattle.carry.proofs.scatter.move_mark.Goals as goal

pub returns : goal.returns
returns c = let a = c.args in
    let room = c.requires in
    scattered_pair a.marks.now a.out.now a.lost.now a.p a.q room.1 room.2
