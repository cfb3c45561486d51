-- What the scan refuses is refused, and else the text is read.
use Rattle.std.proofs.Common.{refl}
use Rattle.dtd.specs.Answer.{refused}
use Rattle.dtd.proofs.Passing.{stopped_answer, passed_answer}
use Rattle.dtd.proofs.read_format.Goals as goal

pub read_text-requires : goal.read_text-requires
read_text-requires c = (c.requires, c.in-Ok.ensures.1)

pub returns-in-Err-Bad : goal.returns-in-Err-Bad
returns-in-Err-Bad c = refused (stopped_answer (rw c.in-Err-Bad.field-0-is at c.in-Err-Bad.ensures)) refl

pub returns-in-Err-Over : goal.returns-in-Err-Over
returns-in-Err-Over c = refused (passed_answer (rw c.in-Err-Over.field-0-is at c.in-Err-Over.ensures)) refl
