-- The lines of the privileges passed are put. Assumes nothing.
use Rattle.std.proofs.Common.{arith}
use Rattle.table.proofs.Privileges.{first_next}
use Rattle.mailing.proofs.Continuing.{continues_none, continues_then, continues_few}
use Rattle.mailing.proofs.put_type.Goals as goal

pub loop-p-init : goal.loop-p-init
loop-p-init c = let p = c.requires in (omega arith, omega (arith, p.2, p.3, first_next c.args.words.now c.args.x), continues_none)

pub put_privilege-end-requires : goal.put_privilege-end-requires
put_privilege-end-requires c = let a = c.args in
    let p = c.requires in (
      p.0,
      record { type = p.1; from = omega arith; until = omega (arith, first_next a.words.now a.x) },
      p.2,
      continues_few p.4 c.loop-p.invariant.2,
    )

pub loop-p-preserved : goal.loop-p-preserved
loop-p-preserved c = (omega arith, omega arith, continues_then c.loop-p.invariant.2 c.put_privilege-end.ensures)
