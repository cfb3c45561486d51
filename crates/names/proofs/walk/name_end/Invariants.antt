-- Bytes of a name so far.
use Rattle.grammar.specs.Bytes.{is_name_byte, Span}
use Rattle.names.proofs.walk.name_end.Given as goal

abbrev pub invariant-loop-i : goal.invariant-loop-i
invariant-loop-i l = Span is_name_byte l.s l.at l.i
