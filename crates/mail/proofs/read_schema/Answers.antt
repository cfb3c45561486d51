-- A known format was asked for, and 1,800 words hold every table; another is 1. Assumes nothing.
use Rattle.std.proofs.Common.{arith, rules}
use Rattle.mail.proofs.Opening.{schema_read}
use Rattle.mail.proofs.read_schema.Goals as goal

pub returns-in-1 : goal.returns-in-1
returns-in-1 c = schema_read (search rules) (omega arith) c.read_format.ensures
