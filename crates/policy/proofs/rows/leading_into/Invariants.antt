-- The loop has the word from position p on. Assumes nothing.
use Rattle.policy.specs.Steps.Squares.{Into}
use Rattle.policy.proofs.Bits.{RowFrom}
use Rattle.policy.proofs.rows.leading_into.Given as goal

abbrev pub invariant-loop-p : goal.invariant-loop-p
invariant-loop-p l = RowFrom (Into l.n l.rows l.word) l.n l.p l.from
