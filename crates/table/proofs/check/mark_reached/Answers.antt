-- For check 8 the types below the root are marked; for another one nothing is asked. Assumes nothing.
use Rattle.std.proofs.Common.{arith}
use Rattle.table.specs.declared.check.Check.TheVariants.{Unreached}
use Rattle.table.proofs.Children.{childed}
use Rattle.table.proofs.Cycles.{root_inside}
use Rattle.table.proofs.check.mark_reached.Goals as goal

pub mark_below-requires : goal.mark_below-requires
mark_below-requires c = let known = childed Unreached (omega arith) (rw c.in-Unreached.is at c.requires.0) in
    (known, root_inside known c.stretch.ensures, c.requires.1)
