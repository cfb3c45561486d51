-- White space so far.
use Rattle.grammar.specs.Bytes.{is_space, Span}
use Rattle.scan.proofs.piece.blanks.Given as goal

abbrev pub invariant-loop-i : goal.invariant-loop-i
invariant-loop-i l = Span is_space l.s l.at l.i
