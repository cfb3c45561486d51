-- The classes of bytes that a place is asked for. Assumes nothing.
use Rattle.std.specs.Prelude.{ℕ, Bool}
use Rattle.grammar.specs.Bytes.{is_space, is_name_start, is_name_byte, is_mark, is_no_dash}
use Rattle.scan.specs.declared.bytes.Class.{Class}
use Rattle.scan.specs.declared.bytes.Class.TheVariants.{Space, Start, Name, Mark, Other}

abbrev pub class_of : Class → ℕ → Bool
class_of Space = is_space
class_of Start = is_name_start
class_of Name = is_name_byte
class_of Mark = is_mark
class_of Other = is_no_dash
