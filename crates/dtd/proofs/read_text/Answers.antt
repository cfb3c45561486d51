-- The names are too many, or are collected. Assumes nothing.
use Rattle.std.proofs.Common.{arith, refl}
use Rattle.dtd.specs.Answer.{refused}
use Rattle.dtd.proofs.Passing.{collected, many_declared}
use Rattle.dtd.proofs.read_text.Goals as goal

pub returns-then-names-gt256 : goal.returns-then-names-gt256
returns-then-names-gt256 c = refused (many_declared c.requires.1 c.collect.ensures (omega arith)) refl

pub read_named-requires : goal.read_named-requires
read_named-requires c = let a = c.requires in
    (a.0, collected a.1 c.collect.ensures (omega arith))
