-- Bytes of a name so far, at most 32 with the first.
use Rattle.std.proofs.Common.{suc, ◌+◌, ◌≤◌}
use Rattle.grammar.specs.Bytes.{is_name_byte, Span}
use Rattle.scan.proofs.piece.name_rest.Given as goal

abbrev pub invariant-loop-i : goal.invariant-loop-i
invariant-loop-i l = (l.i ≤ l.at + 32) × Span is_name_byte l.s (suc l.at) l.i
