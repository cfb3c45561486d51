-- The code is too long, or is that of the declarations. Assumes nothing.
use Rattle.std.proofs.Common.{arith, refl}
use Rattle.dtd.specs.Answer.{refused}
use Rattle.dtd.proofs.Passing.{encoded, code_long}
use Rattle.dtd.proofs.read_named.Goals as goal

pub returns-then-code-gt1280 : goal.returns-then-code-gt1280
returns-then-code-gt1280 c = refused (code_long c.requires.1 c.put_all.ensures (omega arith)) refl

pub read_code-requires : goal.read_code-requires
read_code-requires c = let a = c.requires in
    (a.0, encoded a.1 c.put_all.ensures c.put_all.new.code.size (omega arith) (omega arith) refl)
